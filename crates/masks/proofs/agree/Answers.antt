-- `masks::agree` meets its contract: its three clauses are those of the definition. Assumes nothing.
use mathlib.Core.Path.{◌≡◌, ap, ap₂, ◌∙◌}
use mathlib.Core.Bool.{Bool, true, false, ◌||◌, or_assoc}
use mathlib.Core.Logic.{◌⊎◌, inl, inr, ⊎_elim}
use Prim.Native.Nat.{ℕ}
use Rattle.trees.specs.Mask.{apart, within, agree}
use Rattle.masks.proofs.agree.Goals as goal
use Rattle.masks.proofs.agree.Goals.{then-no_common_bit, else-no_common_bit}

-- t is the first clause where that holds, and else the second
first_two : (x y t : Bool) → ((x ≡ true) × (t ≡ x)) ⊎ ((x ≡ false) × (t ≡ y)) → t ≡ (x || y)
first_two x y t = ⊎_elim (λ w. rw w.0 (w.1 ∙ w.0)) (λ w. rw w.0 w.1)

clauses : (a b : ℕ) (x y z t : Bool) → x ≡ apart a b → y ≡ within a b → z ≡ within b a → t ≡ (x || y) → (t || z) ≡ agree a b
unfolding agree
clauses a b x y z t p q r e = ap (λ u. u || z) e ∙ or_assoc x y z ∙ ap₂ ◌||◌ p (ap₂ ◌||◌ q r)

pub returns-then-first_within_second : goal.returns-then-first_within_second
returns-then-first_within_second c =
    let e = first_two c.are_apart-no_common_bit.result c.is_within-first_within_second.result _
    (elim c.if-no_common_bit.branch [
      | then-no_common_bit w ↦ inl (w.if-no_common_bit.true, w.t-7-is)
      | else-no_common_bit w ↦ inr (w.if-no_common_bit.false, w.t-7-is)
    ]) in
    let f = clauses _ _ _ _ _ _ c.are_apart-no_common_bit.ensures c.is_within-first_within_second.ensures c.is_within-second_within_first.ensures e in
    let x = c.are_apart-no_common_bit.result in
    let y = c.is_within-first_within_second.result in
    let h : (x || y) ≡ true = ⊎_elim (λ p. rw p) (λ p. rw (p.0, p.1)) c.if-first_within_second.either in
    e ∙ h ∙ (rw (e ∙ h) at f)

pub returns-else-first_within_second : goal.returns-else-first_within_second
returns-else-first_within_second d =
    let e = first_two d.are_apart-no_common_bit.result d.is_within-first_within_second.result _
    (elim d.if-no_common_bit.branch [
      | then-no_common_bit v ↦ inl (v.if-no_common_bit.true, v.t-7-is)
      | else-no_common_bit v ↦ inr (v.if-no_common_bit.false, v.t-7-is)
    ]) in
    let f = clauses _ _ _ _ _ _ d.are_apart-no_common_bit.ensures d.is_within-first_within_second.ensures d.is_within-second_within_first.ensures e in
    let x = d.are_apart-no_common_bit.result in
    let y = d.is_within-first_within_second.result in
    let h : (x || y) ≡ false = rw (d.if-first_within_second.false.0, d.if-first_within_second.false.1) in
    rw (e ∙ h) at f
