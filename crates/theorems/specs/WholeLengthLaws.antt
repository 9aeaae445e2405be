-- What "whole" says of lengths, as facts: "Whole now asks stored lengths to be finite and not minus zero".
--
--   GoodLengths h     as many lists of lengths as trees; each as long as its tree's splits, or empty where lengths are not kept; each length
--                     that is given is finite and not minus zero
--   whole-lengths     so are the lengths of a whole collection
--   run-lengths       and so from an accepted opening on, after every run
use Rattle.std.specs.Prelude.{ℕ, zero, suc, ◌≡◌, refl, Bool, true, false, ◌&&◌, List, [], ◌∷◌, Float, get_or, if◌then◌else◌}
use Rattle.std.proofs.Common.{arith, ap, sym, ◌∙◌, true≢false}
use Rattle.std.proofs.Math.Option.{none, some}
use Rattle.std.proofs.Math.Dec.{eqb}
use Rattle.std.proofs.Math.ListN.{length}
use borrow.Author.Tests.{eqb-true, eq-eqb, ne_eqb}
use Rattle.trees.specs.Plain.{every, gives}
use Rattle.trees.specs.Value.{Length, proper}
use Rattle.trees.specs.Opening.{Numbers, Opening, opening}
use Rattle.trees.specs.Held.{Held, opened}
use Rattle.trees.specs.Questions.{tree, tree_lengths}
use Rattle.trees.specs.Runs.{Call, ending}
use Rattle.trees.specs.Whole.{good_length, good_branches, good_lengths}
use Rattle.theorems.specs.ListLaws.{if-true, if-false, and_left, and_right}
use Rattle.theorems.specs.OpeningLaws.{every-get_d}
use Rattle.theorems.specs.WholeHeld.{whole}
use Rattle.theorems.specs.HeldLaws.{whole-facts}
use Rattle.theorems.specs.RunLaws.{run-whole}

pub record GoodLengths (h : Held) : Type 0 where
  pub as_many : length h.lengths ≡ length h.trees
  pub for-each-split : (h.opening.numbers.kept ≡ 0 → ⊥) → (i : ℕ) → length (tree_lengths h i) ≡ length (tree h i)
  pub not-kept : h.opening.numbers.kept ≡ 0 → (i : ℕ) → tree_lengths h i ≡ []
  pub proper : (i j : ℕ) (x : Float) → get_or (tree_lengths h i) j none ≡ some x → proper x ≡ true

-- ---- one tree

no-members : {A : Type 0} (l : List A) → length l ≡ 0 → l ≡ []
no-members [] e = refl
no-members (x ∷ l) e = absurd (omega arith)

given-good : (x : Length) (y : Float) → good_length x ≡ true → x ≡ some y → proper y ≡ true
unfolding good_length
given-good x y g e = ap good_length (sym e) ∙ g

module _ (kept : ℕ) (t : List ℕ) (xs : List Length) (e : good_branches kept t xs ≡ true) where
  branches-count : length xs ≡ if eqb kept 0 then 0 else length t
  unfolding good_branches
  branches-count = eqb-true (length xs) _ (and_left (eqb (length xs) (if eqb kept 0 then 0 else length t)) (every good_length xs) e)

  branches-each : every good_length xs ≡ true
  unfolding good_branches
  branches-each = and_right (eqb (length xs) (if eqb kept 0 then 0 else length t)) (every good_length xs) e

  branches-proper : (j : ℕ) (x : Float) → get_or xs j none ≡ some x → proper x ≡ true
  branches-proper j x q = given-good (get_or xs j none) x (every-get_d good_length xs none (unfold good_length in refl) branches-each j) q

-- ---- all trees

-- no tree, and no lengths
nothing-good : (kept : ℕ) → good_branches kept [] [] ≡ true
unfolding good_branches every
nothing-good kept = go (eqb kept 0)
  where
    go : (b : Bool) → (eqb 0 (if b then 0 else 0) && true) ≡ true
    go true = refl
    go false = refl

lists-count : (kept : ℕ) (ts : List (List ℕ)) (xss : List (List Length)) → good_lengths kept ts xss ≡ true → length xss ≡ length ts
unfolding good_lengths
lists-count kept [] [] e = refl
lists-count kept [] (xs ∷ xss) e = absurd (true≢false (sym e))
lists-count kept (t ∷ ts) [] e = absurd (true≢false (sym e))
lists-count kept (t ∷ ts) (xs ∷ xss) e = ap suc (lists-count kept ts xss (and_right (good_branches kept t xs) (good_lengths kept ts xss) e))

each-good : (kept : ℕ) (ts : List (List ℕ)) (xss : List (List Length)) → good_lengths kept ts xss ≡ true → (i : ℕ) → good_branches kept (get_or ts i []) (get_or xss i []) ≡ true
unfolding good_lengths
each-good kept [] [] e i = nothing-good kept
each-good kept [] (xs ∷ xss) e i = absurd (true≢false (sym e))
each-good kept (t ∷ ts) [] e i = absurd (true≢false (sym e))
each-good kept (t ∷ ts) (xs ∷ xss) e zero = and_left (good_branches kept t xs) (good_lengths kept ts xss) e
each-good kept (t ∷ ts) (xs ∷ xss) e (suc i) = each-good kept ts xss (and_right (good_branches kept t xs) (good_lengths kept ts xss) e) i

-- ---- a collection

pub whole-lengths : (h : Held) → whole h ≡ true → GoodLengths h
unfolding tree tree_lengths
whole-lengths h w =
    let kept = h.opening.numbers.kept in
    let e : good_lengths kept h.trees h.lengths ≡ true = (whole-facts h w).lengths-good in
    let at : (i : ℕ) → good_branches kept (get_or h.trees i []) (get_or h.lengths i []) ≡ true = each-good kept h.trees h.lengths e in
    record {
      as_many = lists-count kept h.trees h.lengths e;
      for-each-split = λ f i. branches-count kept (get_or h.trees i []) (get_or h.lengths i []) (at i) ∙ if-false 0 (length (get_or h.trees i [])) (ne_eqb kept 0 f);
      not-kept = λ z i. no-members (get_or h.lengths i []) (branches-count kept (get_or h.trees i []) (get_or h.lengths i []) (at i) ∙ if-true 0 (length (get_or h.trees i [])) (eq-eqb kept 0 z));
      proper = λ i j x q. branches-proper kept (get_or h.trees i []) (get_or h.lengths i []) (at i) j x q;
    }

pub run-lengths : (x : Numbers) (name_list first second : List ℕ) (lent : ℕ) (o : Opening) → opening x name_list first second lent ≡ gives o → (cs : List Call) → GoodLengths (ending (opened o) cs)
run-lengths x name_list first second lent o e cs = whole-lengths (ending (opened o) cs) (run-whole x name_list first second lent o e cs)
