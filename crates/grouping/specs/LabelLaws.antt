-- The laws of names as the words of a line. Assumes nothing.
--
--   spaced-append                  the words of two lists
--   label-put, label-short         one name, as it is put, and how long it is
--   labels-start, labels-more, labels-less     no taxon; one taxon more, that the mask has, or has not
--   group-put                      a count and the names of a group, as they are put
use Rattle.std.specs.Prelude.{ℕ, ◌+◌, ◌≤◌, ◌<◌, ◌≡◌, refl, true, false, length, get_or, set}
use Rattle.std.proofs.Common.{arith, sym, ◌∙◌}
use Rattle.std.proofs.Math.Path.{ap}
use mathlib.Core.List.{List, [], ◌∷◌, ◌++◌, map-append, append_assoc, append-nil}
use Rattle.trees.specs.Plain.{keep}
use Rattle.trees.specs.Mask.{has}
use Rattle.trees.specs.Names.{good_names}
use Rattle.trees.specs.Decimal.{digits_of}
use Rattle.trees.specs.Written.{written_name}
use Rattle.trees.specs.Groups.{up_to, taxa_in}
use Rattle.theorems.specs.NameLaws.{good-count, good-name}
use Rattle.theorems.specs.WrittenNameLaws.{name-length}
use Rattle.putting.specs.Put.{Put}
use Rattle.putting.specs.PutLaws.{put-none, put_one, put_then, put_as}
use Rattle.putting.specs.Lines.{spaced}
use Rattle.grouping.specs.GroupLines.{labels}
use Rattle.grouping.specs.UpToLaws.{up-to-takes, up-to-leaves}

-- ---- words

pub spaced-append : (v w : List (List ℕ)) → spaced (v ++ w) ≡ spaced v ++ spaced w
unfolding spaced
spaced-append [] w = refl
spaced-append (x ∷ v) w = ap (λ (y : List ℕ). 32 ∷ y) (ap (λ (y : List ℕ). x ++ y) (spaced-append v w) ∙ sym (append_assoc x (spaced v) (spaced w)))

-- ---- one name

module _ (ns : List (List ℕ)) (i : ℕ) where
  label_is : spaced (labels ns (i ∷ [])) ≡ 32 ∷ written_name (get_or ns i [])
  unfolding spaced labels
  label_is = ap (λ (y : List ℕ). 32 ∷ y) (append-nil (written_name (get_or ns i [])))

  pub label-put : {w l u after : List ℕ} {at e : ℕ} → get_or ns i [] ≡ w → u ≡ set l at 32 → Put u (at + 1) (written_name w) after e
      → Put l at (spaced (labels ns (i ∷ []))) after e
  label-put q p a = put_as (sym label_is) (rw q (put_then (put_one p) a))

  pub label-short : (n : ℕ) {l after : List ℕ} {at e : ℕ} → good_names n ns ≡ true → i < n → Put l at (spaced (labels ns (i ∷ []))) after e → e ≤ at + 67
  label-short n g h p =
      omega (arith, p.ends, ap length label_is, name-length (get_or ns i []) (good-name n ns g i (omega (arith, good-count n ns g))))

-- ---- the names of a mask's taxa

module _ (i m : ℕ) where
  taxa-more : has m i ≡ true → taxa_in (i + 1) m ≡ taxa_in i m ++ i ∷ []
  unfolding taxa_in
  taxa-more h = up-to-takes (has m) i h

  taxa-less : has m i ≡ false → taxa_in (i + 1) m ≡ taxa_in i m
  unfolding taxa_in
  taxa-less h = up-to-leaves (has m) i h

module _ (ns : List (List ℕ)) (m : ℕ) where
  pub labels-start : (l : List ℕ) (at : ℕ) → Put l at (spaced (labels ns (taxa_in 0 m))) l at
  unfolding spaced labels taxa_in up_to keep
  labels-start l at = put-none l at

  module _ (i : ℕ) {l k : List ℕ} {at e : ℕ} (p : Put l at (spaced (labels ns (taxa_in i m))) k e) where
    pub labels-more : {after : List ℕ} {z : ℕ} → has m i ≡ true → Put k e (spaced (labels ns (i ∷ []))) after z → Put l at (spaced (labels ns (taxa_in (i + 1) m))) after z
    labels-more h q = put_as (sym (ap (λ (x : List ℕ). spaced (labels ns x)) (taxa-more i m h) ∙ both)) (put_then p q)
      where
        both : spaced (labels ns (taxa_in i m ++ i ∷ [])) ≡ spaced (labels ns (taxa_in i m)) ++ spaced (labels ns (i ∷ []))
        both = unfold labels in ap spaced (map-append _ (taxa_in i m) (i ∷ [])) ∙ spaced-append (labels ns (taxa_in i m)) (labels ns (i ∷ []))

    pub labels-less : has m i ≡ false → Put l at (spaced (labels ns (taxa_in (i + 1) m))) k e
    labels-less h = put_as (ap (λ (x : List ℕ). spaced (labels ns x)) (sym (taxa-less i m h))) p

-- ---- a count and names

pub group-put : (c : ℕ) (ws : List (List ℕ)) {l k u after : List ℕ} {at b e z : ℕ} → Put l at ((32 ∷ []) ++ digits_of c) k b → Put k b (spaced ws) u e → Put u e (10 ∷ []) after z
    → Put l at (spaced (digits_of c ∷ ws) ++ 10 ∷ []) after z
unfolding spaced
group-put c ws p q r = put_then (put_then p q) r
