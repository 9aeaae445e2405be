-- Feeding what is written: it is taken whole, and the verdict is on the splits that it was written from.
--
--   written-more        what is written has one byte more than what is shown
--   written-ends        a text ends in what is written
--   written-taken       with its last byte
--   written-fed         so, where no quotes are open before it, the text that ends is what is shown, behind what the lane held
--   written-accepted    fed to an empty lane of a collection with these names, the tree is accepted where there is room for it, without lengths
use Rattle.std.specs.Prelude.{ℕ, suc, ◌≤◌, ◌≡◌, Bool, true, ltb, length}
use Rattle.std.proofs.Common.{arith, ap₂, ◌∙◌, length-append, le-ltb}
use Rattle.std.proofs.Math.Path.{ap}
use Rattle.std.proofs.Math.Bool.{false}
use mathlib.Core.List.{List, [], ◌∷◌}
use Rattle.trees.specs.Text.{semicolon, open_after, has_end, before_end}
use Rattle.trees.specs.Names.{good_names}
use Rattle.trees.specs.Verdict.{judged_with}
use Rattle.trees.specs.Written.{tree_of, shown, written}
use Rattle.trees.specs.Held.{Held, holding, overrun, most_text, lane_of, open_in, longer, room_for, with_room, verdict, finishing, feeding}
use Rattle.trees.specs.Whole.{good_tree}
use Rattle.theorems.specs.ListLaws.{if-false}
use Rattle.theorems.specs.QuoteLaws.{has_end_lem}
use Rattle.theorems.specs.FeedingLaws.{feeding_by, feeding-by}
use Rattle.theorems.specs.Absent.{without_lengths}
use Rattle.theorems.specs.WrittenLaws.{written-tree-with-lengths, written-closed, written-before-end, written-length}

pub written-more : (ns : List (List ℕ)) (s : List ℕ) → length (written ns s) ≡ suc (length (shown (tree_of ns s)))
unfolding written
written-more ns s = length-append (shown (tree_of ns s)) (semicolon ∷ []) ∙ omega arith

longer-empty : (p : List ℕ) → length p ≤ most_text → longer (holding []) p ≡ holding p
unfolding longer
longer-empty p h = if-false (overrun (open_after false p)) (holding p) (le-ltb most_text (length p) h)

module _ (n : ℕ) (ns : List (List ℕ)) (s : List ℕ) (names : good_names n ns ≡ true) (good : good_tree n s ≡ true) where
  pub written-ends : 2 ≤ n → has_end false (written ns s) ≡ true
  unfolding written
  written-ends h = has_end_lem [] false (shown (tree_of ns s)) (written-closed n ns s names good h)

  pub written-taken : 2 ≤ n → suc (length (before_end false (written ns s))) ≡ length (written ns s)
  written-taken h = ap (λ w. suc (length w)) (written-before-end n ns s names good h) ∙ omega (arith, written-more ns s)

  module _ (h : Held) (l : ℕ) (lane : ltb l h.opening.numbers.lanes ≡ true) where
    pub written-fed : 2 ≤ n → open_in (lane_of h l) ≡ false
        → feeding h l (written ns s) ≡ finishing h l (length (written ns s)) (verdict h (longer (lane_of h l) (shown (tree_of ns s))))
    written-fed k q =
        feeding-by h l (written ns s) ∙ ap₂ (λ (b c : Bool). feeding_by b c h l (written ns s)) lane (ap (λ (o : Bool). has_end o (written ns s)) q ∙ written-ends k)
        ∙ ap (λ (o : Bool). finishing h l (suc (length (before_end o (written ns s)))) (verdict h (longer (lane_of h l) (before_end o (written ns s))))) q
        ∙ ap₂ (λ (t : ℕ) (w : List ℕ). finishing h l t (verdict h (longer (lane_of h l) w))) (written-taken k) (written-before-end n ns s names good k)

    pub written-accepted : 3 ≤ n → n ≤ 64 → h.opening.names ≡ ns → lane_of h l ≡ holding []
        → feeding h l (written ns s) ≡ finishing h l (length (written ns s)) (room_for h (without_lengths h.opening.numbers.kept s))
    unfolding verdict with_room open_in open_after
    written-accepted a b e f =
        written-fed (omega arith) (ap open_in f)
        ∙ ap (λ x. finishing h l (length (written ns s)) (verdict h x))
        (ap (λ x. longer x (shown (tree_of ns s))) f ∙ longer-empty (shown (tree_of ns s)) (omega (arith, written-length n ns s names good a b, written-more ns s)))
        ∙ ap (λ x. finishing h l (length (written ns s)) (with_room h (judged_with h.opening.numbers.kept x (shown (tree_of ns s))))) e
        ∙ ap (λ x. finishing h l (length (written ns s)) (with_room h x)) (written-tree-with-lengths n ns s names good h.opening.numbers.kept (omega arith) b)
