-- What is printed is the summary of the input, however the input comes in pieces. Assumes nothing.
--
--   takes-stand           pieces, taken one after another, are taken as one
--   summary-printed       what is printed is `summary` of the whole input, where 64 bits can count its refused texts
--   input-printed         so it is for every input of fewer than 2 ^ 64 - 1 bytes
use Rattle.std.specs.Prelude.{ℕ, ◌-◌, ◌^◌, ◌≤◌, ◌<◌, ◌≡◌, length}
use Rattle.std.proofs.Common.{arith, sym, ap, subst, ◌∙◌}
use mathlib.Core.List.{List, [], ◌∷◌, ◌++◌, append-nil, append_assoc}
use Rattle.summary.specs.declared.Summing.{Summing}
use Rattle.summary.specs.Summary.{behind_line, summary_bytes, summary}
use Rattle.summary.specs.InputLaws.{behind-most}
use Rattle.summary.specs.Summing.{StandsFor, CountedIn}
use Rattle.summary.specs.FedSoFarLaws.{refused-most}
use Rattle.promises.specs.SummarySteps.{whole, Takes, Summarised}
use Rattle.promises.specs.PrintedLaws.{whole-none, whole-more, lines-follow}

-- ---- piece after piece

pub takes-stand : (ps : List (List ℕ)) (v : List ℕ) (a : Summing) (names s : List ℕ) (b : Summing) (after t : List ℕ)
    → StandsFor a names s v → Takes a names s ps b after t → StandsFor b after t (v ++ whole ps)
unfolding Takes
takes-stand [] v a names s b after t g q =
    let e : v ++ whole [] ≡ v = ap (λ (w : List ℕ). v ++ w) whole-none ∙ append-nil v in
    rw (e, q.0, q.1, q.2) g
takes-stand (p ∷ ps) v a names s b after t g q =
    let e : (v ++ p) ++ whole ps ≡ v ++ whole (p ∷ ps) = append_assoc v p (whole ps) ∙ ap (λ (w : List ℕ). v ++ w) (sym (whole-more p ps)) in
    subst (λ (w : List ℕ). StandsFor b after t w) e (takes-stand ps (v ++ p) q.0 q.1 q.2 b after t (q.3.carries v g) q.4)

-- ---- the whole

module _ (names lent : List ℕ) (a : 4288 ≤ length names) (b : summary_bytes ≤ length lent) (ps : List (List ℕ)) (out : List ℕ)
    (run : Summarised names lent ps out) where
  -- as long as 64 bits can count the refused texts
  pub summary-printed : CountedIn (whole ps) → out ≡ summary (whole ps)
  unfolding summary
  summary-printed small =
      let g = takes-stand ps [] run.first names lent run.last run.kept run.store (run.begins.carries a b) run.takes in
      let h = run.finishes.carries (whole ps) g in
      run.all ∙ lines-follow run.answer run.sheet (whole ps) h small run.parts 0 run.prints

  -- so for every input of fewer than 2 ^ 64 - 1 bytes
  pub input-printed : length (whole ps) < 2 ^ 64 - 1 → out ≡ summary (whole ps)
  unfolding CountedIn
  input-printed h = summary-printed (λ o e. omega (arith, refused-most o (behind_line (whole ps)), behind-most (whole ps)))
