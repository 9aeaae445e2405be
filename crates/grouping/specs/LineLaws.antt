-- The laws of the lines of groups and stand-ins, as they are put. Assumes nothing.
--
--   group-line                     the line of a group
--   stand-in-line, stranger-line   the line of a stand-in: with their group, or with none
--   groups-put                     the lines of all groups
--   line-more, line-end            lines one after another: one more, and behind the last
--   counted-length, counted-at     there are as many counts as masks, and each is its mask's
use Rattle.std.specs.Prelude.{ℕ, zero, suc, ◌+◌, ◌≤◌, ◌<◌, ◌≡◌, eqb, length, get_or, drop, if◌then◌else◌}
use Rattle.std.proofs.Math.Numerals.{add-one}
use Rattle.std.proofs.Common.{arith, sym, ◌∙◌, drop_of_length-le, drop-cons, eq-eqb, ne_eqb}
use Rattle.std.proofs.Math.Path.{refl, ap}
use mathlib.Core.List.{List, [], ◌∷◌, ◌++◌, map, flat_map, append_assoc}
use Rattle.std.proofs.lemmas.List.{length-map}
use Rattle.trees.specs.Plain.{bytes}
use Rattle.trees.specs.Decimal.{digits_of}
use Rattle.trees.specs.Consensus.{count, majority}
use Rattle.trees.specs.Groups.{taxa_in, nearest}
use Rattle.theorems.specs.ListLaws.{if-true, if-false}
use Rattle.head.specs.Head.{numbers_at, names_at, opening_at}
use Rattle.layout.specs.Store.{held_at, held_in}
use Rattle.putting.specs.Put.{Put}
use Rattle.putting.specs.PutLaws.{put_then, put_as}
use Rattle.putting.specs.Lines.{spaced, fields, line_of, bytes_of}
use Rattle.grouping.specs.GroupLines.{labels, group_line, group_lines, stand_in_line}
use Rattle.grouping.specs.LabelLaws.{spaced-append}

-- ---- one line

module _ (s : List ℕ) where
  abbrev named : ℕ → ℕ → List (List ℕ)
  named c m = digits_of c ∷ labels (names_at s) (taxa_in (numbers_at s).taxa m)

  group-is : (m : ℕ) → group_line (held_at s) m ≡ (103 ∷ 114 ∷ 111 ∷ 117 ∷ 112 ∷ []) ++ (spaced (named (count (held_at s).trees m) m) ++ 10 ∷ [])
  unfolding group_line line_of fields bytes held_in opening_at
  group-is m = refl

  pub group-line : (m : ℕ) {c : ℕ} {l k after : List ℕ} {at b e : ℕ} → c ≡ count (held_at s).trees m → Put l at (103 ∷ 114 ∷ 111 ∷ 117 ∷ 112 ∷ []) k b
      → Put k b (spaced (named c m) ++ 10 ∷ []) after e → Put l at (group_line (held_at s) m) after e
  group-line m q p r = put_as (sym (group-is m)) (put_then p (rw q at r))

  module _ (i j : ℕ) where
    abbrev both : ℕ
    both = nearest (numbers_at s).taxa i j (majority (held_at s).trees)

    apart-is : (ws : List (List ℕ)) → (if eqb both 0 then bytes "none" ∷ [] else named (count (held_at s).trees both) both) ≡ ws
        → stand_in_line (held_at s) i j ≡ (97 ∷ 112 ∷ 97 ∷ 114 ∷ 116 ∷ []) ++ (spaced (labels (names_at s) (j ∷ [])) ++ (spaced ws ++ 10 ∷ []))
    unfolding stand_in_line line_of fields bytes held_in opening_at
    apart-is ws e =
        ap (λ (x : List (List ℕ)). (97 ∷ 112 ∷ 97 ∷ 114 ∷ 116 ∷ []) ++ (spaced (labels (names_at s) (j ∷ []) ++ x) ++ 10 ∷ [])) e
        ∙ ap (λ (x : List ℕ). (97 ∷ 112 ∷ 97 ∷ 114 ∷ 116 ∷ []) ++ x)
        (ap (λ (x : List ℕ). x ++ 10 ∷ []) (spaced-append (labels (names_at s) (j ∷ [])) ws) ∙ append_assoc (spaced (labels (names_at s) (j ∷ []))) (spaced ws) (10 ∷ []))

    module _ {l k u after : List ℕ} {at b e z : ℕ} (p : Put l at (97 ∷ 112 ∷ 97 ∷ 114 ∷ 116 ∷ []) k b) (q : Put k b (spaced (labels (names_at s) (j ∷ []))) u e) where
      pub stand-in-line : {x c : ℕ} → (both ≡ x) × (x ≡ 0 → ⊥) → c ≡ count (held_at s).trees x → Put u e (spaced (named c x) ++ 10 ∷ []) after z
          → Put l at (stand_in_line (held_at s) i j) after z
      stand-in-line {x} f g r =
          put_as
          (sym (apart-is (named (count (held_at s).trees x) x) (ap (λ (y : ℕ). if eqb y 0 then bytes "none" ∷ [] else named (count (held_at s).trees y) y) f.0 ∙ if-false _ _ (ne_eqb x 0 f.1))))
          (put_then p (put_then q (rw g at r)))

      pub stranger-line : both ≡ 0 → Put u e (32 ∷ 110 ∷ 111 ∷ 110 ∷ 101 ∷ 10 ∷ []) after z → Put l at (stand_in_line (held_at s) i j) after z
      unfolding bytes spaced
      stranger-line f r = put_as (sym (apart-is (bytes "none" ∷ []) (if-true _ _ (eq-eqb both 0 f)))) (put_then p (put_then q r))

-- ---- line by line

module _ (f : ℕ → List ℕ) (ms : List ℕ) (k : ℕ) where
  pub line-more : k < length ms → bytes_of (map f (drop k ms)) ≡ f (get_or ms k 0) ++ bytes_of (map f (drop (k + 1) ms))
  unfolding bytes_of flat_map
  line-more h = rw (drop-cons ms k 0 h, add-one k)

  pub line-end : length ms ≤ k → bytes_of (map f (drop k ms)) ≡ []
  unfolding bytes_of flat_map
  line-end h = rw (drop_of_length-le ms {i = k} h)

pub groups-put : (s : List ℕ) {ms l after : List ℕ} {at e : ℕ} → ms ≡ majority (held_at s).trees → Put l at (bytes_of (map (group_line (held_at s)) ms)) after e
    → Put l at (bytes_of (group_lines (held_at s))) after e
unfolding group_lines
groups-put s q p = rw q at p

-- ---- masks and their counts

module _ (ts : List (List ℕ)) (ms : List ℕ) where
  pub counted-length : {cs : List ℕ} → cs ≡ map (count ts) ms → length cs ≡ length ms
  counted-length e = ap length e ∙ length-map ms (count ts)

  pub counted-at : (k : ℕ) {cs : List ℕ} → cs ≡ map (count ts) ms → k < length ms → get_or cs k 0 ≡ count ts (get_or ms k 0)
  counted-at k e h = rw e (go ms k h)
    where
      go : (l : List ℕ) (i : ℕ) → i < length l → get_or (map (count ts) l) i 0 ≡ count ts (get_or l i 0)
      go [] i h = absurd (omega arith)
      go (m ∷ l) zero h = refl
      go (m ∷ l) (suc i) h = go l i (omega arith)
