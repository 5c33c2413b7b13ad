-- What a segment draws: events, in the source's order. Definitions only.
use Rattle.std.specs.Prelude.{ℕ, ◌/◌, ◌%◌, Bool, true, false, cond, List, [], ◌++◌, eqb, Float}
use Rattle.std.specs.Int.Bits.{bit_and}
use Rattle.std.specs.Float.Ieee.{neg, lt}
use Rattle.laws.specs.Binary32.{◌⊗◌, dec, whole}
use Rattle.spiral.specs.Util.{new_of, add_of, sub_of, mul_of, neg_of, normalize_of, length_squared_of}
use Rattle.spiral.specs.Euler.{tangent_thresh}
use Rattle.spiral.specs.declared.util.Vec2.{Vec2}
use Rattle.drawing.specs.Sheet.{Event}
use Rattle.drawing.specs.Cubic.{point, start_tangent, end_tangent}
use Rattle.drawing.specs.Cap.{cap_events}
use Rattle.drawing.specs.Join.{join_events}
use Rattle.curve.specs.Curve.{euler_events}
use Rattle.segment.specs.declared.Neighbor.{Neighbor}
use Rattle.segment.specs.declared.Shape.{Shape}
use Rattle.segment.specs.declared.Shape.TheVariants.{Nothing, Fill, StartCap, Stroke}
use Rattle.segment.specs.declared.Tangents.{Tangents}
use Rattle.segment.specs.declared.Edges.{Edges}

-- ---- the next segment, as the one before it sees it

-- where it ends its subpath, only a line is joined to, and its tangent is its chord
unfoldable pub neighbor_of : ℕ → List Vec2 → Neighbor
neighbor_of tag ps =
    cond (eqb (tag / 0x04 % 2) 1)
    (record { do_join = eqb (tag % 4) 1; tangent = sub_of (point ps 3) (point ps 0) })
    (record { do_join = true; tangent = start_tangent ps })

-- ---- tangents and normals

unfoldable pub quarter : Vec2 → Vec2
quarter v = new_of (neg v.y) v.x

-- a tangent shorter than 1e-6 is that long, along x
unfoldable pub steady_of : Vec2 → Vec2
steady_of v = cond (lt (length_squared_of v) (tangent_thresh ⊗ tangent_thresh)) (new_of tangent_thresh (whole 0)) v

unfoldable pub tangents_of : List Vec2 → Vec2 → Tangents
tangents_of ps next =
    record {
      start = steady_of (start_tangent ps);
      prev = steady_of (end_tangent ps);
      next = steady_of next;
    }

-- as long as the offset
unfoldable pub edges_of : Tangents → Float → Edges
edges_of t offset =
    let v = mul_of (normalize_of t.prev) offset in
    record {
      offset_tangent = v;
      n_start = mul_of (normalize_of (quarter t.start)) offset;
      n_prev = quarter v;
      n_next = mul_of (quarter (normalize_of t.next)) offset;
    }

-- ---- what is drawn: the style's flags, the transform z, the points ps of the cubic

-- side +, then side -
unfoldable pub sides_events : List Float → List Vec2 → Float → Edges → List Event
sides_events z ps offset e =
    euler_events ps z offset (add_of (point ps 0) e.n_start) (add_of (point ps 3) e.n_prev)
    ++ euler_events ps z (neg offset) (sub_of (point ps 0) e.n_start) (sub_of (point ps 3) e.n_prev)

-- the join to the next segment where there is one to draw, else the end cap
unfoldable pub end_events : Bool → ℕ → List Float → Vec2 → Tangents → Edges → List Event
end_events true flags z p t e = join_events flags z p t.prev t.next e.n_prev e.n_next
end_events false flags z p t e =
    cap_events (bit_and flags 0x03000000) z p (add_of p e.n_prev) (sub_of p e.n_prev) e.offset_tangent

unfoldable pub stroke_events : ℕ → List Float → List Vec2 → Float → Neighbor → List Event
stroke_events flags z ps width next =
    let offset = dec 5 1 ⊗ width in
    let t = tangents_of ps next.tangent in
    let e = edges_of t offset in
    sides_events z ps offset e ++ end_events next.do_join flags z (point ps 3) t e

-- the start cap's two bits are moved to where an end cap has them
unfoldable pub start_cap_events : ℕ → List Float → List Vec2 → Float → List Event
start_cap_events flags z ps width =
    let p = point ps 0 in
    let v = mul_of (normalize_of (sub_of (point ps 3) p)) (dec 5 1 ⊗ width) in
    cap_events (bit_and flags 0x0c000000 / 4) z p (sub_of p (quarter v)) (add_of p (quarter v)) (neg_of v)

unfoldable pub fill_events : List Float → List Vec2 → List Event
fill_events z ps = euler_events ps z (whole 0) (point ps 0) (point ps 3)

unfoldable pub shape_events : Shape → ℕ → List Float → List Vec2 → List Event
shape_events Nothing flags z ps = []
shape_events Fill flags z ps = fill_events z ps
shape_events (StartCap width) flags z ps = start_cap_events flags z ps width
shape_events (Stroke width next) flags z ps = stroke_events flags z ps width next
