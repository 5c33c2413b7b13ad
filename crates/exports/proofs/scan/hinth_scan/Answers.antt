-- `exports::scan::hinth_scan` meets its contract. Assumes nothing.
use mathlib.Core.Path.{sym}
use Rattle.scene.specs.Tags.{scan_told}
use Rattle.exports.specs.Scan.{scanned_of}
use Rattle.exports.proofs.scan.hinth_scan.Goals as goal

pub returns-in-Ok : goal.returns-in-Ok
unfolding scanned_of scan_told
returns-in-Ok c =
    rw (c.put_told.ensures, sym c.scan.ensures, c.in-Ok.is)

pub returns-in-Err : goal.returns-in-Err
unfolding scanned_of scan_told
returns-in-Err c =
    rw (c.number.ensures, c.put_told-in-Err.ensures, sym c.scan.ensures, c.in-Err.is)
