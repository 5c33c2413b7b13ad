-- The contract of each public function determines its answer: no second one satisfies it. Assumes nothing.
use Rattle.std.specs.Prelude.{◌≡◌, List, Float}
use Rattle.laws.specs.Only.{Only, determined}
use Rattle.spiral.specs.Util.{new_of, add_of, sub_of, mul_of, div_of, neg_of, dot_of, length_of, length_squared_of, mix_of, normalize_of, angle_of, has_nan, eq_of, identity_of, apply_of}
use Rattle.spiral.specs.Euler.{from_points_derivs, from_angles, eval_th, from_params, point_of, espc_int_approx, espc_int_inv_approx}
use Rattle.spiral.specs.declared.util.Vec2.{Vec2}
use Rattle.spiral.specs.declared.euler.EulerParams.{EulerParams}
use Rattle.spiral.specs.declared.euler.EulerSeg.{EulerSeg}

-- ---- util
pub new_only : (x y : Float) → Only (λ r. r ≡ new_of x y)
new_only x y = determined (new_of x y)

pub add_only : (p q : Vec2) → Only (λ r. r ≡ add_of p q)
add_only p q = determined (add_of p q)

pub sub_only : (p q : Vec2) → Only (λ r. r ≡ sub_of p q)
sub_only p q = determined (sub_of p q)

pub mul_only : (p : Vec2) (k : Float) → Only (λ r. r ≡ mul_of p k)
mul_only p k = determined (mul_of p k)

pub div_only : (p : Vec2) (k : Float) → Only (λ r. r ≡ div_of p k)
div_only p k = determined (div_of p k)

pub neg_only : (p : Vec2) → Only (λ r. r ≡ neg_of p)
neg_only p = determined (neg_of p)

pub dot_only : (p q : Vec2) → Only (λ r. r ≡ dot_of p q)
dot_only p q = determined (dot_of p q)

pub length_only : (p : Vec2) → Only (λ r. r ≡ length_of p)
length_only p = determined (length_of p)

pub length_squared_only : (p : Vec2) → Only (λ r. r ≡ length_squared_of p)
length_squared_only p = determined (length_squared_of p)

pub mix_only : (p q : Vec2) (t : Float) → Only (λ r. r ≡ mix_of p q t)
mix_only p q t = determined (mix_of p q t)

pub normalize_only : (p : Vec2) → Only (λ r. r ≡ normalize_of p)
normalize_only p = determined (normalize_of p)

pub atan2_only : (p : Vec2) → Only (λ r. r ≡ angle_of p)
atan2_only p = determined (angle_of p)

pub is_nan_only : (p : Vec2) → Only (λ r. r ≡ has_nan p)
is_nan_only p = determined (has_nan p)

pub eq_only : (p q : Vec2) → Only (λ r. r ≡ eq_of p q)
eq_only p q = determined (eq_of p q)

pub identity_only : Only (λ r. r ≡ identity_of)
identity_only = determined identity_of

pub apply_only : (z : List Float) (p : Vec2) → Only (λ r. r ≡ apply_of z p)
apply_only z p = determined (apply_of z p)

-- ---- euler
pub from_points_derivs_only : (p0 p1 q0 q1 : Vec2) (dt : Float) → Only (λ r. r ≡ from_points_derivs p0 p1 q0 q1 dt)
from_points_derivs_only p0 p1 q0 q1 dt = determined (from_points_derivs p0 p1 q0 q1 dt)

pub from_angles_only : (th0 th1 : Float) → Only (λ r. r ≡ from_angles th0 th1)
from_angles_only th0 th1 = determined (from_angles th0 th1)

pub eval_th_only : (e : EulerParams) (t : Float) → Only (λ r. r ≡ eval_th e t)
eval_th_only e t = determined (eval_th e t)

pub from_params_only : (p0 p1 : Vec2) (e : EulerParams) → Only (λ r. r ≡ from_params p0 p1 e)
from_params_only p0 p1 e = determined (from_params p0 p1 e)

pub eval_with_offset_only : (seg : EulerSeg) (t offset : Float) → Only (λ r. r ≡ point_of seg t offset)
eval_with_offset_only seg t offset = determined (point_of seg t offset)

pub espc_int_approx_only : (x : Float) → Only (λ r. r ≡ espc_int_approx x)
espc_int_approx_only x = determined (espc_int_approx x)

pub espc_int_inv_approx_only : (x : Float) → Only (λ r. r ≡ espc_int_inv_approx x)
espc_int_inv_approx_only x = determined (espc_int_inv_approx x)
