-- The laws of the stand-ins of a taxon, line by line. Assumes nothing.
--
--   same_not, other-shares              whether a taxon is another than i, with a group of k taxa
--   sharing-start, sharing-more, sharing-less, sharing-end     those whose group has k taxa: no taxon, one more, and all
--   stand-ins-start, stand-ins-more, stand-ins-end     from the largest groups down
--   from-length, from_all               how many are left
--   sharers-few, sharers-more, sharers-less     how many of the taxa below j are among them
--   stand-ins-few                       there are at most as many stand-ins as taxa
use Prim.Native.Nat.{ℕ, zero, suc, ◌+◌, ◌-◌, ◌≤◌, ◌<◌}
use native.Mathlib.Omega.{arith}
use Rattle.std.specs.Prelude.{◌≡◌, Bool, ◌&&◌, not, leb, eqb, if◌then◌else◌}
use Rattle.std.proofs.Math.Path.{refl, ap}
use Rattle.std.proofs.Common.{sym, ◌∙◌, true≢false, length-append, leb-true, le-leb, eqb-true, eq-eqb, ne_eqb}
use Rattle.std.proofs.Math.Bool.{true, false}
use mathlib.Core.List.{List, [], ◌∷◌, ◌++◌, map, map-append, flat_map}
use Rattle.std.proofs.Math.ListN.{length}
use Rattle.std.proofs.lemmas.Bool.{lt-leb}
use Rattle.trees.specs.Plain.{keep}
use Rattle.trees.specs.Mask.{ones_below}
use Rattle.trees.specs.Consensus.{majority}
use Rattle.trees.specs.Groups.{up_to, group_of, sharing, sharing_from, stand_ins}
use Rattle.theorems.specs.ListLaws.{and_right, keep-step, keep-most}
use Rattle.head.specs.Head.{numbers_at, opening_at}
use Rattle.layout.specs.Store.{held_at, held_in}
use Rattle.putting.specs.Put.{Put, Putting}
use Rattle.putting.specs.PutLaws.{put-none, put_then, put_as, putting-start}
use Rattle.putting.specs.Lines.{bytes_of}
use Rattle.putting.specs.LinesLaws.{bytes-append, bytes-more}
use Rattle.grouping.specs.GroupLines.{stand_in_line, stand_in_lines}
use Rattle.grouping.specs.UpToLaws.{up-to-takes, up-to-leaves, up-to-length}

module _ (n i : ℕ) (ms : List ℕ) where
  abbrev size : ℕ → ℕ
  size j = ones_below n (group_of n i j ms)

  abbrev pub sharer : ℕ → ℕ → Bool
  sharer k j = not (eqb j i) && eqb (size j) k

  -- ---- one taxon

  pub same_not : (k j : ℕ) → j ≡ i → false ≡ sharer k j
  same_not k j e = rw (eq-eqb j i e) refl

  pub other-shares : (k j : ℕ) {r : ℕ} → (j ≡ i → ⊥) → r ≡ size j → eqb r k ≡ sharer k j
  other-shares k j f e = rw (ne_eqb j i f, e) refl

  from_step : (k : ℕ) → 0 < k → sharing_from n i ms k ≡ sharing n i ms k ++ sharing_from n i ms (k - 1)
  unfolding sharing_from
  from_step zero h = absurd (omega arith)
  from_step (suc k) h = let e : suc k - 1 ≡ k = omega arith in rw e refl

  -- ---- those whose group has k taxa

  module _ (f : ℕ → List ℕ) (k : ℕ) where
    pub sharing-start : (l : List ℕ) (at : ℕ) → Put l at (bytes_of (map f (keep (sharer k) (up_to 0)))) l at
    unfolding bytes_of flat_map keep up_to
    sharing-start l at = put-none l at

    module _ (j : ℕ) {l u : List ℕ} {at e : ℕ} (p : Put l at (bytes_of (map f (keep (sharer k) (up_to j)))) u e) where
      pub sharing-more : {after : List ℕ} {z : ℕ} → sharer k j ≡ true → Put u e (f j) after z → Put l at (bytes_of (map f (keep (sharer k) (up_to (j + 1))))) after z
      sharing-more h q =
          let ks = keep (sharer k) (up_to j) in
          put_as (sym (ap (λ (x : List ℕ). bytes_of (map f x)) (up-to-takes (sharer k) j h) ∙ ap bytes_of (map-append f ks (j ∷ [])) ∙ bytes-more (map f ks) (f j))) (put_then p q)

      pub sharing-less : sharer k j ≡ false → Put l at (bytes_of (map f (keep (sharer k) (up_to (j + 1))))) u e
      sharing-less h = put_as (ap (λ (x : List ℕ). bytes_of (map f x)) (sym (up-to-leaves (sharer k) j h))) p

    pub sharing-end : keep (sharer k) (up_to n) ≡ sharing n i ms k
    unfolding sharing
    sharing-end = refl

    -- ---- from the largest groups down

    pub stand-ins-more : 0 < k → bytes_of (map f (sharing_from n i ms k)) ≡ bytes_of (map f (sharing n i ms k)) ++ bytes_of (map f (sharing_from n i ms (k - 1)))
    stand-ins-more h =
        let a = sharing n i ms k in
        let b = sharing_from n i ms (k - 1) in
        ap (λ (x : List ℕ). bytes_of (map f x)) (from_step k h) ∙ ap bytes_of (map-append f a b) ∙ bytes-append (map f a) (map f b)

    pub stand-ins-end : k ≤ 0 → bytes_of (map f (sharing_from n i ms k)) ≡ []
    unfolding bytes_of flat_map sharing_from
    stand-ins-end h = let e : k ≡ 0 = omega arith in rw e refl

  pub from-length : (k : ℕ) → 0 < k → length (sharing_from n i ms k) ≡ length (sharing n i ms k) + length (sharing_from n i ms (k - 1))
  from-length k h = ap length (from_step k h) ∙ length-append (sharing n i ms k) (sharing_from n i ms (k - 1))

  pub from_all : (k : ℕ) → k ≡ n → length (sharing_from n i ms k) ≡ length (stand_ins n i ms)
  unfolding stand_ins
  from_all k e = rw e refl

  -- ---- how many there are

  module _ (k j : ℕ) where
    pub sharers-few : length (keep (sharer k) (up_to j)) ≤ j
    sharers-few = omega (arith, keep-most (sharer k) (up_to j), up-to-length j)

    pub sharers-more : sharer k j ≡ true → length (keep (sharer k) (up_to (j + 1))) ≡ length (keep (sharer k) (up_to j)) + 1
    sharers-more h = omega (arith, ap length (up-to-takes (sharer k) j h), length-append (keep (sharer k) (up_to j)) (j ∷ []))

    pub sharers-less : sharer k j ≡ false → length (keep (sharer k) (up_to (j + 1))) ≡ length (keep (sharer k) (up_to j))
    sharers-less h = ap length (up-to-leaves (sharer k) j h)

  abbrev within : ℕ → ℕ → Bool
  within k j = leb (size j) k

  apart : (k j : ℕ) → sharer (suc k) j ≡ true → (within k j ≡ false) × (within (suc k) j ≡ true)
  apart k j h =
      let e = eqb-true (size j) (suc k) (and_right (not (eqb j i)) _ h) in
      (lt-leb (size j) k (omega arith), le-leb (size j) (suc k) (omega arith))

  wider : (k j : ℕ) → within k j ≡ true → within (suc k) j ≡ true
  wider k j h = le-leb (size j) (suc k) (omega (arith, leb-true (size j) k h))

  fewer : (k : ℕ) (l : List ℕ) → length (keep (sharer (suc k)) l) + length (keep (within k) l) ≤ length (keep (within (suc k)) l)
  fewer k [] = unfold keep in omega arith
  fewer k (x ∷ l) = rw (keep-step (sharer (suc k)) x l, keep-step (within k) x l, keep-step (within (suc k)) x l) (go (sharer (suc k) x) (within k x) (within (suc k) x) (length (keep (sharer (suc k)) l)) (length (keep (within k) l)) (length (keep (within (suc k)) l)) (apart k x) (wider k x) (fewer k l))
    where
      go : (a b c : Bool) (p q r : ℕ) → (a ≡ true → (b ≡ false) × (c ≡ true)) → (b ≡ true → c ≡ true) → p + q ≤ r
          → (if a then suc p else p) + (if b then suc q else q) ≤ (if c then suc r else r)
      go true true c p q r f g h = absurd (true≢false (f refl).0)
      go true false true p q r f g h = omega arith
      go true false false p q r f g h = absurd (true≢false (sym (f refl).1))
      go false true true p q r f g h = omega arith
      go false true false p q r f g h = absurd (true≢false (sym (g refl)))
      go false false true p q r f g h = omega arith
      go false false false p q r f g h = h

  from-few : (k : ℕ) → length (sharing_from n i ms k) ≤ length (keep (within k) (up_to n))
  from-few zero = unfold sharing_from in omega arith
  from-few (suc k) =
      let e : suc k - 1 ≡ k = omega arith in
      omega (arith, rw e at (from-length (suc k) (omega arith)), from-few k, fewer k (up_to n), ap length (sharing-end (λ j. []) (suc k)))

  pub stand-ins-few : length (stand_ins n i ms) ≤ n
  unfolding stand_ins
  stand-ins-few = omega (arith, from-few n, keep-most (within n) (up_to n), up-to-length n)

pub stand-ins-start : (s : List ℕ) (i : ℕ) {ms : List ℕ} {k : ℕ} → ms ≡ majority (held_at s).trees → k ≡ (numbers_at s).taxa → (l : List ℕ) (at : ℕ)
    → Putting l at (bytes_of (stand_in_lines (held_at s) i)) l at (bytes_of (map (stand_in_line (held_at s) i) (sharing_from (numbers_at s).taxa i ms k)))
unfolding stand_in_lines stand_ins held_in opening_at
stand-ins-start s i q e l at = rw (q, e) (putting-start l at _)
