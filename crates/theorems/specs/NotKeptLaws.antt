-- "Opening says whether lengths are kept; if not .., all is as before": the collection without lengths is the one of before.
--
--   as_before a             an answer with splits alone, with no lengths
--   judged-not-kept        a text is judged as it is without lengths: whatever they are, and with none
--   verdict-not-kept       so is the text of a lane, and there may be no room for it
--   not-seventeen          so 17 never comes
--   size-not-kept          the size of a store is the formula without lengths
--   weighted-not-kept, sums-not-kept     the questions about lengths are refused: 13 where there is no such tree or split, else 18
--   weighted-never, sums-never           so they are never given
use Rattle.std.specs.Prelude.{ℕ, ◌+◌, ◌*◌, ◌≡◌, refl, eqb, Float, if◌then◌else◌}
use native.Mathlib.Omega.{arith}
use Rattle.std.proofs.Common.{zero-mul, sym, ◌∙◌, eq-eqb}
use Rattle.std.proofs.Math.Path.{ap, subst}
use mathlib.Core.List.{List, []}
use Rattle.std.proofs.Math.Dec.{ltb}
use Rattle.std.proofs.Math.ListN.{length}
use Rattle.trees.specs.Plain.{Answer, refused, gives}
use Rattle.trees.specs.Consensus.{recorded}
use Rattle.trees.specs.Opening.{Numbers, store_size, head_bytes, lane_bytes, tree_bytes}
use Rattle.trees.specs.Verdict.{judged, Branches, with_lengths, judged_with}
use Rattle.trees.specs.Sums.{Sums}
use Rattle.trees.specs.Held.{Held, Lane, holding, overrun, new_splits, room_for, with_room, verdict}
use Rattle.trees.specs.Questions.{if_tree, if_kept, weighted_of, sums_of}
use Rattle.theorems.specs.ListLaws.{by-test, if-true}
use Rattle.theorems.specs.VerdictLaws.{refusal-numbers}
use Rattle.theorems.specs.FaultLaws.{judged-accepts}
use Rattle.theorems.specs.LengthVerdictLaws.{with-refused, with-given}

-- ---- the verdict

unfoldable pub as_before : Answer (List ℕ) → Answer Branches
as_before (refused k) = refused k
as_before (gives ms) = gives (record { splits = ms; lengths = [] })

pub judged-not-kept : (ns : List (List ℕ)) (s : List ℕ) → judged_with 0 ns s ≡ as_before (judged ns s)
unfolding as_before with_lengths
judged-not-kept ns s = go (judged ns s) refl
  where
    go : (a : Answer (List ℕ)) → judged ns s ≡ a → judged_with 0 ns s ≡ as_before a
    go (refused k) e = with-refused 0 ns s k e
    go (gives ms) e = let r = (judged-accepts ns s ms).0 e in with-given 0 ns s r.0 r.1 ms e

-- ---- a collection

module _ (h : Held) (none_kept : h.opening.numbers.kept ≡ 0) where
  pub verdict-not-kept : (s : List ℕ) → verdict h (holding s) ≡ with_room h (as_before (judged h.opening.names s))
  unfolding verdict
  verdict-not-kept s = ap (λ (k : ℕ). with_room h (judged_with k h.opening.names s)) none_kept ∙ ap (with_room h) (judged-not-kept h.opening.names s)

  abbrev NotSeventeen : Answer Branches → Type 0
  NotSeventeen (refused k) = k ≡ 17 → ⊥
  NotSeventeen (gives b) = Unit {0}

  room-not-seventeen : (b : Branches) → NotSeventeen (room_for h b)
  unfolding room_for
  room-not-seventeen b =
      by-test NotSeventeen (eqb (length h.trees) h.opening.numbers.tree_room) (λ _ e. omega arith)
      (λ _. by-test NotSeventeen (ltb h.opening.numbers.split_room (length (recorded h.trees) + length (new_splits h b.splits))) (λ _ e. omega arith) (λ _. tt))

  judged-not-seventeen : (s : List ℕ) (a : Answer (List ℕ)) → judged h.opening.names s ≡ a → NotSeventeen (with_room h (as_before a))
  unfolding with_room as_before
  judged-not-seventeen s (refused k) e = λ q. omega (arith, (refusal-numbers h.opening.names s k e).1)
  judged-not-seventeen s (gives ms) e = room-not-seventeen (record { splits = ms; lengths = [] })

  lane-not-seventeen : (x : Lane) → NotSeventeen (verdict h x)
  lane-not-seventeen (overrun q) = unfold verdict in λ e. omega arith
  lane-not-seventeen (holding s) = subst NotSeventeen (sym (verdict-not-kept s)) (judged-not-seventeen s (judged h.opening.names s) refl)

  pub not-seventeen : (x : Lane) → verdict h x ≡ refused 17 → ⊥
  not-seventeen x e = subst NotSeventeen e (lane-not-seventeen x) refl

  -- ---- its questions

  refused-eighteen : {A : Type 0} (a : Answer A) → if_kept h a ≡ refused 18
  unfolding if_kept
  refused-eighteen a = if-true (refused 18) a (eq-eqb h.opening.numbers.kept 0 none_kept)

  pub weighted-not-kept : (i j : ℕ) → weighted_of h i j ≡ if_tree h i (if_tree h j (refused 18))
  unfolding weighted_of
  weighted-not-kept i j = ap (λ (a : Answer Float). if_tree h i (if_tree h j a)) (refused-eighteen _)

  pub sums-not-kept : (s : ℕ) → sums_of h s ≡ if ltb s (length (recorded h.trees)) then refused 18 else refused 13
  unfolding sums_of
  sums-not-kept s = ap (λ (a : Answer Sums). if ltb s (length (recorded h.trees)) then a else refused 13) (refused-eighteen _)

  abbrev NotGiven : {A : Type 0} → Answer A → Type 0
  NotGiven (refused k) = Unit {0}
  NotGiven (gives x) = ⊥

  pub weighted-never : (i j : ℕ) (x : Float) → weighted_of h i j ≡ gives x → ⊥
  unfolding if_tree
  weighted-never i j x e = subst NotGiven (sym (weighted-not-kept i j) ∙ e) (by-test NotGiven (ltb i (length h.trees)) (λ _. by-test NotGiven (ltb j (length h.trees)) (λ _. tt) (λ _. tt)) (λ _. tt))

  pub sums-never : (s : ℕ) (x : Sums) → sums_of h s ≡ gives x → ⊥
  sums-never s x e = subst NotGiven (sym (sums-not-kept s) ∙ e) (by-test NotGiven (ltb s (length (recorded h.trees))) (λ _. tt) (λ _. tt))

-- ---- its store

pub size-not-kept : (x : Numbers) → x.kept ≡ 0 → store_size x ≡ head_bytes + lane_bytes * x.lanes + tree_bytes * x.tree_room + 24 * x.split_room + 2 * x.places
unfolding store_size
size-not-kept x e =
    let none : x.kept * x.tree_room ≡ 0 = ap (λ (k : ℕ). k * x.tree_room) e ∙ zero-mul x.tree_room in
    omega arith
