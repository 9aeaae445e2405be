-- `reasons::reason` meets its contract. Assumes nothing.
use Rattle.std.proofs.Common.{arith, ◌≡◌, ◌<◌, ◌-◌, ℕ, List, [], length, map, get_or, sym, Bor}
use Rattle.std.proofs.lemmas.List.{get_or-map}
use Rattle.trees.specs.Plain.{bytes}
use Rattle.answers.specs.declared.Refusal.TheVariants as why
use Rattle.answers.specs.Answers.{refusal_number}
use Rattle.answers.specs.AnswerLaws.{filled-refused}
use Rattle.reasons.specs.Reasons.{reasons, reason_of}
use Rattle.reasons.specs.ReasonLaws.{asked-none, given}
use Rattle.reasons.proofs.reason.Goals as goal

-- what the elements of a list refer to
now_at : (l : List (Bor (List ℕ))) (i : ℕ) (d : Bor (List ℕ)) → i < length l → (get_or l i d).now ≡ get_or (map (λ (b : Bor (List ℕ)). b.now) l) i []
now_at l i d h = sym (get_or-map (λ (b : Bor (List ℕ)). b.now) l i d [] h)

pub returns-then-k-eq0 : goal.returns-then-k-eq0
unfolding refusal_number
returns-then-k-eq0 c = filled-refused _ _ why.NoSuchNumber (asked-none _ _ c.then-k-eq0.either)

pub returns : goal.returns
unfolding reason_of reasons bytes
returns c =
    let h : c.args.k - 1 < 25 = omega arith in
    given _ _ c.args.out.now _ _ _ (omega arith) (omega arith) c.put.ensures (rw now_at)
