-- Laws of pairs at places: four numbers say where a pair's key and its name begin and end. Assumes nothing.
--
--   pairs-snoc, pairs-same, pairs-length     the pairs at places: one more, the same, how many
--   placed-length, placed-before, placed-0 to placed-3     the places with those of a pair that was put
--   pair-before, pair-here, pairs-more     the pairs there: those before it, itself, and all
--   placed-more, placed-none     these places lie in the list
use Prim.Native.Nat.{ℕ, zero, suc, ◌+◌, ◌*◌, ◌≤◌, ◌<◌}
use Rattle.std.proofs.Common.{add-one, subst, ◌∙◌, ⊎_elim, length-set, get_or-set_same, get_or-set_other}
use native.Mathlib.Omega.{arith}
use Rattle.std.specs.Prelude.{◌≡◌, length, get_or, set}
use Rattle.std.proofs.Math.Path.{refl, ap, ap₂}
use mathlib.Core.List.{List, [], ◌∷◌, ◌++◌}
use Rattle.trees.specs.Nexus.{Pair, most_keys}
use Rattle.theorems.specs.ListLaws.{less-or-not}
use Rattle.nexus.specs.declared.tokens.Token.{Token}
use Rattle.nexus.specs.Commands.{pair_at, pairs_from, pairs_in, Placed, placed_pair}
use Rattle.nexus.specs.PairLaws.{pair_of}

up_to : (P : ℕ → Type 0) (n : ℕ) → ((j : ℕ) → j < n → P j) → P n → (j : ℕ) → j < n + 1 → P j
up_to P n f p j h = ⊎_elim (λ l. f j l) (λ l. let e : n ≡ j = omega arith in subst P e p) (less-or-not j n)

module _ (s ps : List ℕ) where
  pairs-snoc : (j n : ℕ) → pairs_from s ps j (suc n) ≡ pairs_from s ps j n ++ (pair_at s ps (j + n) ∷ [])
  unfolding pairs_from
  pairs-snoc j zero = let e : j ≡ j + 0 = omega arith in ap (λ (i : ℕ). pair_at s ps i ∷ []) e
  pairs-snoc j (suc n) =
      let e : suc j + n ≡ j + suc n = omega arith in
      ap (λ (l : List Pair). pair_at s ps j ∷ l) (pairs-snoc (suc j) n ∙ ap (λ (i : ℕ). pairs_from s ps (suc j) n ++ (pair_at s ps i ∷ [])) e)

  pairs-same : (qs : List ℕ) (j n : ℕ) → ((i : ℕ) → i < j + n → pair_at s qs i ≡ pair_at s ps i) → pairs_from s qs j n ≡ pairs_from s ps j n
  unfolding pairs_from
  pairs-same qs j zero f = refl
  pairs-same qs j (suc n) f = ap₂ (λ (p : Pair) (l : List Pair). p ∷ l) (f j (omega arith)) (pairs-same qs (suc j) n (λ i h. f i (omega arith)))

  pairs-from-length : (j n : ℕ) → length (pairs_from s ps j n) ≡ n
  unfolding pairs_from
  pairs-from-length j zero = refl
  pairs-from-length j (suc n) = ap suc (pairs-from-length (suc j) n)

  pub pairs-length : (n : ℕ) → length (pairs_in s n ps) ≡ n
  unfolding pairs_in
  pairs-length n = pairs-from-length 0 n

-- the places ps with one, two and three of pair n put
abbrev put_one : List ℕ → ℕ → Token → List ℕ
put_one ps n k = set ps (4 * n) k.from

abbrev put_two : List ℕ → ℕ → Token → List ℕ
put_two ps n k = set (put_one ps n k) (4 * n + 1) k.end

abbrev put_three : List ℕ → ℕ → Token → Token → List ℕ
put_three ps n k v = set (put_two ps n k) (4 * n + 2) v.from

module _ (ps : List ℕ) (n : ℕ) (k v : Token) where
  pub placed-length : length (placed_pair ps n k v) ≡ length ps
  placed-length = simp length-set

  placed-before : (i : ℕ) → i < 4 * n → get_or (placed_pair ps n k v) i 0 ≡ get_or ps i 0
  placed-before i h =
      get_or-set_other (put_three ps n k v) (4 * n + 3) i v.end 0 (λ e. omega arith)
      ∙ get_or-set_other (put_two ps n k) (4 * n + 2) i v.from 0 (λ e. omega arith)
      ∙ get_or-set_other (put_one ps n k) (4 * n + 1) i k.end 0 (λ e. omega arith)
      ∙ get_or-set_other ps (4 * n) i k.from 0 (λ e. omega arith)

  pair-before : (s : List ℕ) (i : ℕ) → i < n → pair_at s (placed_pair ps n k v) i ≡ pair_at s ps i
  pair-before s i h =
      rw (placed-before (4 * i) (omega arith), placed-before (4 * i + 1) (omega arith), placed-before (4 * i + 2) (omega arith), placed-before (4 * i + 3) (omega arith))

  module _ (room : 4 * n + 4 ≤ length ps) where
    placed-0 : get_or (placed_pair ps n k v) (4 * n) 0 ≡ k.from
    placed-0 =
        get_or-set_other (put_three ps n k v) (4 * n + 3) (4 * n) v.end 0 (λ e. omega arith)
        ∙ get_or-set_other (put_two ps n k) (4 * n + 2) (4 * n) v.from 0 (λ e. omega arith)
        ∙ get_or-set_other (put_one ps n k) (4 * n + 1) (4 * n) k.end 0 (λ e. omega arith)
        ∙ get_or-set_same ps (4 * n) k.from 0 (omega arith)

    placed-1 : get_or (placed_pair ps n k v) (4 * n + 1) 0 ≡ k.end
    placed-1 =
        get_or-set_other (put_three ps n k v) (4 * n + 3) (4 * n + 1) v.end 0 (λ e. omega arith)
        ∙ get_or-set_other (put_two ps n k) (4 * n + 2) (4 * n + 1) v.from 0 (λ e. omega arith)
        ∙ get_or-set_same (put_one ps n k) (4 * n + 1) k.end 0 (simp length-set (omega arith))

    placed-2 : get_or (placed_pair ps n k v) (4 * n + 2) 0 ≡ v.from
    placed-2 =
        get_or-set_other (put_three ps n k v) (4 * n + 3) (4 * n + 2) v.end 0 (λ e. omega arith)
        ∙ get_or-set_same (put_two ps n k) (4 * n + 2) v.from 0 (simp length-set (omega arith))

    placed-3 : get_or (placed_pair ps n k v) (4 * n + 3) 0 ≡ v.end
    placed-3 = get_or-set_same (put_three ps n k v) (4 * n + 3) v.end 0 (simp length-set (omega arith))

    pair-here : (s : List ℕ) → pair_at s (placed_pair ps n k v) n ≡ pair_of s k v
    pair-here s = rw (placed-0, placed-1, placed-2, placed-3)

    pub pairs-more : (s : List ℕ) → pairs_in s (n + 1) (placed_pair ps n k v) ≡ pairs_in s n ps ++ (pair_of s k v ∷ [])
    unfolding pairs_in
    pairs-more s =
        let z : 0 + n ≡ n = omega arith in
        ap (pairs_from s (placed_pair ps n k v) 0) (add-one n)
        ∙ pairs-snoc s (placed_pair ps n k v) 0 n
        ∙ ap₂
        (λ (l : List Pair) (p : Pair). l ++ (p ∷ []))
        (pairs-same s ps (placed_pair ps n k v) 0 n (λ i h. pair-before s i (omega arith)))
        (ap (pair_at s (placed_pair ps n k v)) z ∙ pair-here s)

    pub placed-more : (s : List ℕ) → n < most_keys → Placed s n ps → k.from ≤ k.end → k.end ≤ length s → v.from ≤ v.end → v.end ≤ length s
        → Placed s (n + 1) (placed_pair ps n k v)
    placed-more s few p ko kw vo vw =
        record {
          few = omega arith;
          reach = simp length-set (omega arith);
          keys =
              up_to
              (λ j. (get_or (placed_pair ps n k v) (4 * j) 0 ≤ get_or (placed_pair ps n k v) (4 * j + 1) 0) × (get_or (placed_pair ps n k v) (4 * j + 1) 0 ≤ length s))
              n
              (λ j l. rw (placed-before (4 * j) (omega arith), placed-before (4 * j + 1) (omega arith)) (p.keys j l))
              (rw (placed-0, placed-1) (ko, kw));
          names =
              up_to
              (λ j. (get_or (placed_pair ps n k v) (4 * j + 2) 0 ≤ get_or (placed_pair ps n k v) (4 * j + 3) 0) × (get_or (placed_pair ps n k v) (4 * j + 3) 0 ≤ length s))
              n
              (λ j l. rw (placed-before (4 * j + 2) (omega arith), placed-before (4 * j + 3) (omega arith)) (p.names j l))
              (rw (placed-2, placed-3) (vo, vw));
        }

pub placed-none : (s ps : List ℕ) → Placed s 0 ps
placed-none s ps = record { few = omega arith; reach = omega arith; keys = λ j h. absurd (omega arith); names = λ j h. absurd (omega arith) }
