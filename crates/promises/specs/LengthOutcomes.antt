-- The promises of the functions on branch lengths leave one outcome. Each theorem is over the function's own `Post`. Assumes nothing.
--
--   doubles     put-length-once, get-length-once, holds-length-once
--   lengths     length-at-once
--   weighing    weighing-weighted-once, first-sum-once, add-sum-once
--   rows        length-in-once
use Rattle.std.specs.Prelude.{ℕ, ◌≡◌, refl, List, Float, None, Some, Option as CodeOption}
use Rattle.std.proofs.Common.{sym, ap, ap₂, ◌∙◌, subst}
use Rattle.std.proofs.Math.Option.{Option, none, some}
use Rattle.std.proofs.Math.Seq.{slice}
use Rattle.doubles.proofs.put_length.Reads as put-length
use Rattle.doubles.proofs.get_length.Reads as get-length
use Rattle.doubles.proofs.holds_length.Reads as holds-length
use Rattle.lengths.proofs.length_at.Reads as length_at
use Rattle.weighing.proofs.weighted.Reads as weighted
use Rattle.weighing.proofs.first_sum.Reads as first-sum
use Rattle.weighing.proofs.add_sum.Reads as add-sum
use Rattle.rows.proofs.length_in.Reads as length-in
use Rattle.doubles.specs.Stored.{branch_given}
use Rattle.trees.specs.Value.{length_of}
use Rattle.text.specs.OnceLaws.{run-once}
use Rattle.lengths.specs.declared.Taken.{Taken}
use Rattle.lengths.specs.Answer.{value_given}
use Rattle.lengths.specs.Read.{LengthTaken}
use Rattle.promises.specs.Once.{Once, AnswerOnce, arg1}
use Rattle.promises.specs.Outcomes.{sums-one, both}

-- ---- answers that mean the same are the same

-- what is given, or x
abbrev given_or : Float → Option Float → Float
given_or x none = x
given_or x (some y) = y

-- whether there is one, as a type
abbrev Is_some : Option Float → Type 0
Is_some none = ⊥
Is_some (some x) = Unit {0}

branch_one : (a b : CodeOption Float) → branch_given a ≡ branch_given b → a ≡ b
unfolding branch_given
branch_one None None e = refl
branch_one None (Some y) e = absurd (subst Is_some (sym e) tt)
branch_one (Some x) None e = absurd (subst Is_some e tt)
branch_one (Some x) (Some y) e = ap (λ (o : Option Float). Some (given_or x o)) e

value-one : (a b : CodeOption Float) → value_given a ≡ value_given b → a ≡ b
unfolding value_given
value-one None None e = refl
value-one None (Some y) e = absurd (subst Is_some (sym e) tt)
value-one (Some x) None e = absurd (subst Is_some e tt)
value-one (Some x) (Some y) e = ap (λ (o : Option Float). Some (given_or x o)) e

-- ---- doubles

pub put-length-once : Once put-length.Post (λ x q r y z. (arg1 y).now ≡ (arg1 z).now)
put-length-once k x q r y z a b = both a b

pub get-length-once : AnswerOnce get-length.Post
get-length-once k x q r y z a b = branch_one q r (both a b)

pub holds-length-once : AnswerOnce holds-length.Post
holds-length-once k x q r y z a b = both a b

-- ---- lengths

-- a run of label bytes has one end
taken-one : (s : List ℕ) (b : ℕ) (q r : Taken) → LengthTaken s b q → LengthTaken s b r → q ≡ r
taken-one s b q r x y =
    let e : q.at ≡ r.at = run-once s b q.at r.at x.run y.run in
    ap₂ (λ (v : CodeOption Float) (n : ℕ). record { value = v; at = n }) (value-one q.value r.value (x.value ∙ ap (λ (n : ℕ). length_of (slice b n s)) e ∙ sym y.value)) e

pub length-at-once : AnswerOnce length_at.Post
length-at-once k x q r y z a b = taken-one _ _ q r a b

-- ---- weighing

pub weighing-weighted-once : AnswerOnce weighted.Post
weighing-weighted-once k x q r y z a b = both a b

pub first-sum-once : AnswerOnce first-sum.Post
first-sum-once k x q r y z a b = sums-one q r (both a b)

pub add-sum-once : AnswerOnce add-sum.Post
add-sum-once k x q r y z a b = sums-one q r (both a b)

-- ---- the stored length of a tree's split

pub length-in-once : AnswerOnce length-in.Post
length-in-once k x q r y z a b = branch_one q r (both a b)
