-- The laws of the release sheet, as it is put. Assumes nothing.
--
--   first-put                  what every sheet has
--   newick-none, newick-put    the two trees alone
--   splits-none, splits-all, split-more, split-end, splits-few     the recorded splits, one after another
--   apart_none, apart_of       the stand-ins
--   taxon-nobody, taxon-of, taxon-there     whether the taxon that is asked for is one of the collection's
--   all-newick, all-put        all lines
--   release-missing, release-there     what is answered of a whole store
use Rattle.std.specs.Prelude.{ℕ, ◌+◌, ◌≤◌, ◌<◌, ◌≡◌, Bool, true, false, ltb, drop, Option, None, Some}
use Rattle.std.proofs.Common.{arith, sym, ap, ◌∙◌}
use Rattle.std.proofs.Math.Path.{refl}
use mathlib.Core.List.{List, [], ◌∷◌, ◌++◌, map, flat_map, append-nil}
use borrow.Author.Tests.{eq-eqb, ne_eqb, ltb-true}
use Rattle.trees.specs.Plain.{bytes}
use Rattle.trees.specs.Consensus.{recorded, strict, majority}
use Rattle.trees.specs.Written.{written}
use Rattle.trees.specs.Held.{Held}
use Rattle.trees.specs.Questions.{if_room}
use Rattle.answers.specs.declared.Refusal.TheVariants as why
use Rattle.answers.specs.declared.Taxon.{Taxon}
use Rattle.answers.specs.Answers.{refusal_number, refusing}
use Rattle.head.specs.Head.{numbers_at, opening_at}
use Rattle.layout.specs.Store.{trees_held_at, splits_held_at, split_at, held_at}
use Rattle.layout.specs.WholeStore.{whole_at}
use Rattle.layout.specs.WholeFacts.{whole-at-facts}
use Rattle.store.specs.RecordedAtLaws.{trees-length, recorded-length, recorded-mask}
use Rattle.store.specs.HeldWholeLaws.{held-numbers, opening-facts}
use Rattle.store.specs.LentLaws.{when_whole}
use Rattle.putting.specs.Put.{Put}
use Rattle.putting.specs.PutLaws.{put-none, put_then, put_as}
use Rattle.putting.specs.Lines.{spaced, fields, line_of, bytes_of}
use Rattle.putting.specs.LinesLaws.{bytes-append}
use Rattle.sheet.specs.Sheet.{counts_line, split_line, tree_text, majority_line, strict_line}
use Rattle.sheet.specs.LineLaws.{majority-line, strict-line}
use Rattle.grouping.specs.GroupLines.{group_lines, stand_in_lines}
use Rattle.grouping.specs.LineLaws.{line-more, line-end}
use Rattle.drawing.specs.DrawnLines.{drawn_lines}
use Rattle.release.specs.declared.Wanted.{Wanted}
use Rattle.release.specs.Release.{newick_lines, first_lines, split_lines, apart_lines, release_lines, is_taxon, release_of, release_asked}

-- ---- what every sheet has

-- a word, a tree's text, and the line's end
abbrev tree_bytes : List ℕ → List ℕ → List ℕ
tree_bytes word text = word ++ (text ++ 10 ∷ [])

module _ (h : Held) (r : ℕ) where
  first-bytes : counts_line h r ++ (bytes_of (group_lines h) ++ (majority_line h ++ (strict_line h ++ bytes_of (drawn_lines h)))) ≡ bytes_of (first_lines h r)
  first-bytes = sym (first-is ∙ ap (λ (v : List ℕ). counts_line h r ++ v) (bytes-append (group_lines h) (majority_line h ∷ strict_line h ∷ drawn_lines h) ∙ ap (λ (v : List ℕ). bytes_of (group_lines h) ++ v) two-more))
    where
      first-is : bytes_of (first_lines h r) ≡ counts_line h r ++ bytes_of (group_lines h ++ (majority_line h ∷ strict_line h ∷ drawn_lines h))
      first-is = unfold first_lines bytes_of flat_map in refl

      two-more : bytes_of (majority_line h ∷ strict_line h ∷ drawn_lines h) ≡ majority_line h ++ (strict_line h ++ bytes_of (drawn_lines h))
      two-more = unfold bytes_of flat_map in refl

  pub first-put : {l i j k m after : List ℕ} {a b c d z : ℕ} → Put l 0 (counts_line h r) i a → Put i a (bytes_of (group_lines h)) j b
      → Put j b (tree_bytes (bytes "majority" ++ 32 ∷ []) (tree_text h (majority h.trees))) k c
      → Put k c (tree_bytes (bytes "strict" ++ 32 ∷ []) (tree_text h (strict h.trees))) m d
      → Put m d (bytes_of (drawn_lines h)) after z → Put l 0 (bytes_of (first_lines h r)) after z
  first-put p q t u v = put_as first-bytes (put_then p (put_then q (put_then (put_as (majority-line h) t) (put_then (put_as (strict-line h) u) v))))

-- ---- the two trees alone

line-alone : (t : List ℕ) → tree_bytes [] t ≡ line_of (t ∷ [])
unfolding line_of fields spaced
line-alone t = ap (λ (v : List ℕ). v ++ 10 ∷ []) (sym (append-nil t))

module _ (s : List ℕ) where
  pub newick-none : trees_held_at s ≡ 0 → (l : List ℕ) → Put l 0 (bytes_of (newick_lines (held_at s))) l 0
  newick-none z l = put_as (sym none-are) (put-none l 0)
    where
      none-are : bytes_of (newick_lines (held_at s)) ≡ []
      none-are = unfold newick_lines bytes_of flat_map in rw (trees-length s, eq-eqb (trees_held_at s) 0 z)

  module _ (z : trees_held_at s ≡ 0 → ⊥) where
    text-is : (splits : List ℕ) → tree_text (held_at s) splits ≡ written (held_at s).opening.names splits
    unfolding tree_text
    text-is splits = rw (trees-length s, ne_eqb (trees_held_at s) 0 z)

    newick-are : bytes_of (newick_lines (held_at s)) ≡ line_of (written (held_at s).opening.names (majority (held_at s).trees) ∷ []) ++ line_of (written (held_at s).opening.names (strict (held_at s).trees) ∷ [])
    newick-are = unfold newick_lines bytes_of flat_map in rw (trees-length s, ne_eqb (trees_held_at s) 0 z) (ap (λ (v : List ℕ). line_of (written (held_at s).opening.names (majority (held_at s).trees) ∷ []) ++ v) (append-nil _))

    alone : (splits : List ℕ) → tree_bytes [] (tree_text (held_at s) splits) ≡ line_of (written (held_at s).opening.names splits ∷ [])
    alone splits = line-alone (tree_text (held_at s) splits) ∙ ap (λ (t : List ℕ). line_of (t ∷ [])) (text-is splits)

    pub newick-put : {l k after : List ℕ} {b e : ℕ} → Put l 0 (tree_bytes [] (tree_text (held_at s) (majority (held_at s).trees))) k b
        → Put k b (tree_bytes [] (tree_text (held_at s) (strict (held_at s).trees))) after e → Put l 0 (bytes_of (newick_lines (held_at s))) after e
    newick-put p q = put_as (sym newick-are) (put_then (put_as (alone (majority (held_at s).trees)) p) (put_as (alone (strict (held_at s).trees)) q))

-- ---- the recorded splits

module _ (h : Held) {wanted : Bool} where
  pub splits-none : {l : List ℕ} {at : ℕ} → wanted ≡ false → Put l at (bytes_of (split_lines h wanted)) l at
  splits-none {l} {at} q = put_as (sym none-are) (put-none l at)
    where
      none-are : bytes_of (split_lines h wanted) ≡ []
      none-are = unfold split_lines bytes_of flat_map in rw q

  pub splits-all : {l after : List ℕ} {at e : ℕ} → wanted ≡ true → Put l at (bytes_of (map (split_line h) (recorded h.trees))) after e
      → Put l at (bytes_of (split_lines h wanted)) after e
  splits-all q p = put_as all_are p
    where
      all_are : bytes_of (map (split_line h) (recorded h.trees)) ≡ bytes_of (split_lines h wanted)
      all_are = unfold split_lines in rw q

module _ (s : List ℕ) (w : whole_at s ≡ true) (k : ℕ) where
  pub split-more : k < splits_held_at s
      → bytes_of (map (split_line (held_at s)) (drop k (recorded (held_at s).trees))) ≡ split_line (held_at s) (split_at s k) ++ bytes_of (map (split_line (held_at s)) (drop (k + 1) (recorded (held_at s).trees)))
  split-more g =
      line-more (split_line (held_at s)) (recorded (held_at s).trees) k (omega (arith, recorded-length s w))
      ∙ ap (λ (m : ℕ). split_line (held_at s) m ++ bytes_of (map (split_line (held_at s)) (drop (k + 1) (recorded (held_at s).trees)))) (recorded-mask s w k g)

  pub split-end : splits_held_at s ≤ k → bytes_of (map (split_line (held_at s)) (drop k (recorded (held_at s).trees))) ≡ []
  split-end g = line-end (split_line (held_at s)) (recorded (held_at s).trees) k (omega (arith, recorded-length s w))

-- "split room | 1 | 4,096"
pub splits-few : (s : List ℕ) → whole_at s ≡ true → splits_held_at s ≤ 4096
unfolding opening_at
splits-few s w = omega (arith, (whole-at-facts s w).head.splits-fit, (opening-facts s w).ranges.most-splits)

-- ---- the stand-ins

module _ (h : Held) {a : Option Taxon} where
  pub apart_none : a ≡ None → (l : List ℕ) (at : ℕ) → Put l at (bytes_of (apart_lines h a)) l at
  apart_none q l at = put_as (sym none-are) (put-none l at)
    where
      none-are : bytes_of (apart_lines h a) ≡ []
      none-are = unfold apart_lines bytes_of flat_map in rw q

  pub apart_of : {i : Taxon} {l after : List ℕ} {at e : ℕ} → a ≡ Some i → Put l at (bytes_of (stand_in_lines h i.0)) after e
      → Put l at (bytes_of (apart_lines h a)) after e
  apart_of {i} q p = put_as those-are p
    where
      those-are : bytes_of (stand_in_lines h i.0) ≡ bytes_of (apart_lines h a)
      those-are = unfold apart_lines in rw q

pub taxon-nobody : (h : Held) {a : Option Taxon} → a ≡ None → true ≡ is_taxon h a
unfolding is_taxon
taxon-nobody h q = rw q

module _ (s : List ℕ) {a : Option Taxon} {i : Taxon} (q : a ≡ Some i) where
  pub taxon-of : {n : ℕ} → n ≡ (numbers_at s).taxa → ltb i.0 n ≡ is_taxon (held_at s) a
  unfolding is_taxon
  taxon-of e = rw (q, held-numbers s, e)

  pub taxon-there : is_taxon (held_at s) a ≡ true → i.0 < (numbers_at s).taxa
  taxon-there t = ltb-true i.0 (numbers_at s).taxa (taxon-of refl ∙ t)

-- ---- all lines

module _ (h : Held) (r : ℕ) (w : Wanted) where
  pub all-newick : {l after : List ℕ} {e : ℕ} → w.newick ≡ true → Put l 0 (bytes_of (newick_lines h)) after e → Put l 0 (bytes_of (release_lines h r w)) after e
  all-newick q p = put_as lines_are p
    where
      lines_are : bytes_of (newick_lines h) ≡ bytes_of (release_lines h r w)
      lines_are = unfold release_lines in rw q

  pub all-put : {l i k after : List ℕ} {a b e : ℕ} → w.newick ≡ false → Put l 0 (bytes_of (first_lines h r)) i a → Put i a (bytes_of (split_lines h w.splits)) k b
      → Put k b (bytes_of (apart_lines h w.apart)) after e → Put l 0 (bytes_of (release_lines h r w)) after e
  all-put q p u v = put_as (sym all-bytes) (put_then p (put_then u v))
    where
      lines_are : release_lines h r w ≡ first_lines h r ++ (split_lines h w.splits ++ apart_lines h w.apart)
      lines_are = unfold release_lines in rw q

      all-bytes : bytes_of (release_lines h r w) ≡ bytes_of (first_lines h r) ++ (bytes_of (split_lines h w.splits) ++ bytes_of (apart_lines h w.apart))
      all-bytes =
          ap bytes_of lines_are
          ∙ bytes-append (first_lines h r) (split_lines h w.splits ++ apart_lines h w.apart)
          ∙ ap (λ (v : List ℕ). bytes_of (first_lines h r) ++ v) (bytes-append (split_lines h w.splits) (apart_lines h w.apart))

-- ---- what is answered

module _ (s : List ℕ) (g : whole_at s ≡ true) (r : ℕ) (w : Wanted) (room : ℕ) where
  asked_is : release_asked s r w room ≡ release_of (held_at s) r w room
  asked_is = when_whole s (λ h. release_of h r w room) g

  pub release-missing : is_taxon (held_at s) w.apart ≡ false → release_asked s r w room ≡ refusing why.NoSuchNumber
  release-missing q = asked_is ∙ (unfold release_of refusal_number in rw q)

  pub release-there : is_taxon (held_at s) w.apart ≡ true → release_asked s r w room ≡ if_room room (bytes_of (release_lines (held_at s) r w))
  release-there q = asked_is ∙ (unfold release_of in rw q)
