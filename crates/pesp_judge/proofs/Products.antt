-- Products of whole numbers.
use Rattle.plan_num.proofs.Common.{◌≡◌, ℕ, ℤ, pos, negsuc, ◌+ℤ◌, ◌≤ℤ◌, neg_ℤ, arith, ints, ◌*◌, ◌+◌, ◌≤◌, ap, ◌∙◌, sym, mul-le-mul_left}
use Rattle.std.proofs.Common.{◌*ℤ◌}
use Rattle.std.proofs.Math.Nat.{add-mul, mul-add}
use lib.IntN.{*ℤ_comm, zero-*ℤ}
use borrow.Author.Differences.{up, down, product_is, sum_is_lem, le_out}

by_up : (k x y b d c e : ℕ) → x + d + e ≡ y + b + c → k * x + k * d + k * e ≡ k * y + k * b + k * c
by_up k x y b d c e h =
    let whole = ap (λ n. k * n) h in
    let left : k * (x + d + e) ≡ k * x + k * d + k * e = grind (arith, mul-add) in
    let right : k * (y + b + c) ≡ k * y + k * b + k * c = grind (arith, mul-add) in
    sym left ∙ whole ∙ right

pub over_sum : (a b c : ℤ) → a *ℤ (b +ℤ c) ≡ a *ℤ b +ℤ a *ℤ c
over_sum a b c =
    let s = sum_is_lem b c in
    let l : (up a * up (b +ℤ c) + up a * down b + up a * down c ≡ up a * down (b +ℤ c) + up a * up b + up a * up c) = by_up (up a) (up (b +ℤ c)) (down (b +ℤ c)) (up b) (down b) (up c) (down c) s in
    let m : (down a * up (b +ℤ c) + down a * down b + down a * down c ≡ down a * down (b +ℤ c) + down a * up b + down a * up c) = by_up (down a) (up (b +ℤ c)) (down (b +ℤ c)) (up b) (down b) (up c) (down c) s in
    omega (arith, ints)

grows_by : (k b d c e : ℕ) → b + e ≤ c + d → k * b + k * e ≤ k * c + k * d
grows_by k b d c e h =
    let whole : k * (b + e) ≤ k * (c + d) = mul-le-mul_left k h in
    let left : k * (b + e) ≡ k * b + k * e = grind (arith, mul-add) in
    let right : k * (c + d) ≡ k * c + k * d = grind (arith, mul-add) in
    omega (arith, whole, left, right)

pub grows : (a b c : ℤ) → pos 0 ≤ℤ a → b ≤ℤ c → (a *ℤ b) ≤ℤ (a *ℤ c)
grows (pos k) b c some more =
    let m = grows_by k (up b) (down b) (up c) (down c) (le_out b c more) in
    omega (arith, ints)
grows (negsuc k) b c some more = absurd (omega (arith, ints))

left : (x y z n : ℕ) → x ≡ y + z → x * n ≡ y * n + z * n
left x y z n h = ap (λ m. m * n) h ∙ add-mul y z n

right : (x y z n : ℕ) → x ≡ y + z → n * x ≡ n * y + n * z
right x y z n h = ap (λ m. n * m) h ∙ mul-add n y z

pub over_product : (a b c : ℤ) → (a *ℤ b) *ℤ c ≡ a *ℤ (b *ℤ c)
over_product a b c =
    let p = product_is a b in
    let q = product_is b c in
    let k = left _ _ _ (up c) p.0 in
    let l = left _ _ _ (down c) p.1 in
    let m = left _ _ _ (down c) p.0 in
    let n = left _ _ _ (up c) p.1 in
    let o = right _ _ _ (up a) q.0 in
    let r = right _ _ _ (down a) q.1 in
    let s = right _ _ _ (up a) q.1 in
    let t = right _ _ _ (down a) q.0 in
    omega (arith, ints)

pub sum_over : (a b c : ℤ) → (a +ℤ b) *ℤ c ≡ a *ℤ c +ℤ b *ℤ c
sum_over a b c = *ℤ_comm (a +ℤ b) c ∙ over_sum c a b ∙ ap2 (*ℤ_comm c a) (*ℤ_comm c b)
  where
    ap2 : {w x y z : ℤ} → w ≡ x → y ≡ z → w +ℤ y ≡ x +ℤ z
    ap2 p q = λ i. p i +ℤ q i

pub neg_over : (a b : ℤ) → neg_ℤ a *ℤ b ≡ neg_ℤ (a *ℤ b)
neg_over a b =
    let parts = sum_over a (neg_ℤ a) b in
    let none : a +ℤ neg_ℤ a ≡ pos 0 = omega (arith, ints) in
    let nothing = ap (λ z. z *ℤ b) none ∙ zero-*ℤ b in
    omega (arith, ints)

pub over_neg : (a b : ℤ) → a *ℤ neg_ℤ b ≡ neg_ℤ (a *ℤ b)
over_neg a b = *ℤ_comm a (neg_ℤ b) ∙ neg_over b a ∙ ap neg_ℤ (*ℤ_comm b a)

pub one_times : (a : ℤ) → pos 1 *ℤ a ≡ a
one_times a = omega (arith, ints)

pub minus_times : (a : ℤ) → neg_ℤ (pos 1) *ℤ a ≡ neg_ℤ a
minus_times a = omega (arith, ints)
