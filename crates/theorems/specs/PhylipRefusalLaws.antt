-- What reading a matrix in PHYLIP's layout answers, each answer exactly where request 2026-07 has it, and in its order.
--
--   symmetric-exactly        a matrix passes the test exactly when it is symmetric and its diagonal zero
--   even-or-not              of any other matrix two values across the diagonal differ, or a value on it is not 0
--   Malformed f              24: the text f is not laid out
--   NotEven f                25: it is, and its matrix is not symmetric or a value on its diagonal is not 0
--   NoRoom f room            4: it is, its matrix is symmetric with a zero diagonal, and its values are more than the room
--   phylip-refusals-in-order     reading is refused exactly in these three cases, each with its number
--   twenty-four-exactly, twenty-five-exactly, four-exactly     so of each number
--   matrix-given-exactly     it gives a matrix exactly when that is laid out, symmetric with a zero diagonal, and no more than the room
--   writing-makes-no-difference     two texts of the same matrix get the same answer, whatever their names, spaces and leading zeros are
use Rattle.std.specs.Prelude.{ℕ, zero, suc, ◌*◌, ◌≤◌, ◌<◌, ◌≡◌, ◌⊎◌, ◌↔◌, Bool, ◌&&◌, List, length, if◌then◌else◌}
use Rattle.std.proofs.Common.{arith, ap, sym, ◌∙◌, true≢false}
use Rattle.std.proofs.Math.Path.{refl}
use Rattle.std.proofs.Math.Logic.{inl, inr}
use Rattle.std.proofs.Math.Bool.{true, false}
use Rattle.std.proofs.Math.Option.{Option, none, some}
use Rattle.std.proofs.Math.Dec.{ltb, eqb}
use borrow.Author.Tests.{ltb-true, ltb-false, lt-ltb, le-ltb, eqb-true, eqb-false, eq-eqb}
use Rattle.trees.specs.Plain.{every, Answer, refused, gives}
use Rattle.trees.specs.Phylip.{Square, square_in, below, entry, symmetric}
use Rattle.trees.specs.PhylipCall.{read_phylip_of}
use Rattle.theorems.specs.ListLaws.{if-true, if-false, and_left, and_right, and-true, Mem, every-at, every-intro}
use Rattle.theorems.specs.FileConsensusLaws.{every-fails}
use Rattle.theorems.specs.PhylipLayout.{Layout, text_of, matrix_in, Sound, LaidOut, Even, Uneven}
use Rattle.theorems.specs.PhylipReadLaws.{layout-reads}
use Rattle.theorems.specs.PhylipSoundLaws.{laid-out-exactly, laid-values}

-- ---- the matrix

below_less : (n i : ℕ) → Mem i (below n) → i < n
unfolding below
below_less zero i x' = elim x' [ ]
below_less (suc n) i (inl e) = omega arith
below_less (suc n) i (inr h) = omega (arith, below_less n i h)

less-below : (n i : ℕ) → i < n → Mem i (below n)
unfolding below
less-below zero i h = absurd (omega arith)
less-below (suc n) i h = go (eqb i n) refl (less-below n i)
  where
    go : (b : Bool) → eqb i n ≡ b → (i < n → Mem i (below n)) → (i ≡ n) ⊎ Mem i (below n)
    go true e f = inl (eqb-true i n e)
    go false e f = let g = eqb-false i n e in inr (f (omega arith))

module _ (q : Square) where
  abbrev row_test : ℕ → Bool
  row_test i = eqb (entry q i i) 0 && every (λ j. eqb (entry q i j) (entry q j i)) (below q.trees)

  even : symmetric q ≡ true → Even q
  unfolding symmetric
  even e = record {
    diagonal = λ i h. eqb-true (entry q i i) 0 (and_left (eqb (entry q i i) 0) _ (row i h));
    across = λ i j h k. eqb-true (entry q i j) (entry q j i) (every-at (λ j. eqb (entry q i j) (entry q j i)) (below q.trees) (and_right (eqb (entry q i i) 0) _ (row i h)) j (less-below q.trees j k));
  }
    where
      row : (i : ℕ) → i < q.trees → row_test i ≡ true
      row i h = every-at row_test (below q.trees) e i (less-below q.trees i h)

  pub symmetric-exactly : (symmetric q ≡ true) ↔ Even q
  unfolding symmetric
  symmetric-exactly = (
    even,
    λ g. every-intro row_test (below q.trees)
        (λ i h. and-true (eq-eqb (entry q i i) 0 (g.diagonal i (below_less q.trees i h)))
        (every-intro (λ j. eqb (entry q i j) (entry q j i)) (below q.trees) (λ j k. eq-eqb _ _ (g.across i j (below_less q.trees i h) (below_less q.trees j k))))),
  )

  uneven : symmetric q ≡ false → Uneven q
  unfolding symmetric
  uneven e =
      let x = every-fails row_test (below q.trees) e in
      go x.0 (below_less q.trees x.0 x.1) (eqb (entry q x.0 x.0) 0) (every (λ j. eqb (entry q x.0 j) (entry q j x.0)) (below q.trees)) refl refl x.2
    where
      go : (i : ℕ) → i < q.trees → (a b : Bool) → eqb (entry q i i) 0 ≡ a → every (λ j. eqb (entry q i j) (entry q j i)) (below q.trees) ≡ b → (a && b) ≡ false → Uneven q
      go i h false b r s z = inr (i, h, eqb-false _ _ r)
      go i h true false r s z = let y = every-fails (λ j. eqb (entry q i j) (entry q j i)) (below q.trees) s in inl (i, y.0, h, below_less q.trees y.0 y.1, eqb-false _ _ y.2)
      go i h true true r s z = absurd (true≢false z)

  never_both : Even q → Uneven q → ⊥
  never_both g (inl x) = x.4 (g.across x.0 x.1 x.2 x.3)
  never_both g (inr x) = x.2 (g.diagonal x.0 x.1)

  uneven-false : Uneven q → symmetric q ≡ false
  uneven-false x = go (symmetric q) refl
    where
      go : (b : Bool) → symmetric q ≡ b → b ≡ false
      go true e = absurd (never_both (even e) x)
      go false e = refl

  pub even-or-not : Even q ⊎ Uneven q
  even-or-not = go (symmetric q) refl
    where
      go : (b : Bool) → symmetric q ≡ b → Even q ⊎ Uneven q
      go true e = inl (even e)
      go false e = inr (uneven e)

-- ---- the answers

-- "24 malformed"
abbrev pub Malformed : List ℕ → Type 0
Malformed f = (q : Square) → LaidOut f q → ⊥

-- "25 not symmetric or diagonal not zero"
abbrev pub NotEven : List ℕ → Type 0
NotEven f = (q : Square) × LaidOut f q × Uneven q

-- "then 4"
abbrev pub NoRoom : List ℕ → ℕ → Type 0
NoRoom f room = (q : Square) × LaidOut f q × Even q × (room < q.trees * q.trees)

abbrev pub PhylipRefused : List ℕ → ℕ → ℕ → Type 0
PhylipRefused f room k = ((k ≡ 24) × Malformed f) ⊎ (((k ≡ 25) × NotEven f) ⊎ ((k ≡ 4) × NoRoom f room))

abbrev answered : ℕ → Option Square → Answer Square
answered room none = refused 24
answered room (some q) = if symmetric q then if ltb room (length q.values) then refused 4 else gives q else refused 25

module _ (f : List ℕ) (room : ℕ) where
  read-by : read_phylip_of f room ≡ answered room (square_in f)
  unfolding read_phylip_of
  read-by = go (square_in f)
    where
      go : (a : Option Square) → elim a as (λ _. Answer Square) [ none ↦ refused 24 | some q ↦ if symmetric q then if ltb room (length q.values) then refused 4 else gives q else refused 25 ] ≡ answered room a
      go none = refl
      go (some q) = refl

  -- what an answer says of the text
  abbrev Says : Answer Square → Type 0
  Says (refused k) = PhylipRefused f room k
  Says (gives q) = LaidOut f q × Even q × (q.trees * q.trees ≤ room)

  said : (a : Option Square) → square_in f ≡ a → Says (answered room a)
  said none e = inl (refl, λ q x. nothing q ((laid-out-exactly f q).1 x))
    where
      nothing : (q : Square) → square_in f ≡ some q → ⊥
      nothing q p = let z : ◌≡◌ {A = ℕ} 0 1 = cc in omega arith
  said (some q) e = go (symmetric q) (ltb room (length q.values)) refl refl ((laid-out-exactly f q).0 e)
    where
      go : (a b : Bool) → symmetric q ≡ a → ltb room (length q.values) ≡ b → LaidOut f q → Says (if a then if b then refused 4 else gives q else refused 25)
      go false b r s x = inr (inl (refl, (q, x, uneven q r)))
      go true true r s x = let l = ltb-true room (length q.values) s in inr (inr (refl, (q, x, even q r, omega (arith, laid-values f q x))))
      go true false r s x = let l = ltb-false room (length q.values) s in (x, even q r, omega (arith, laid-values f q x))

  says : Says (read_phylip_of f room)
  says = rw read-by (said (square_in f) refl)

  laid-answer : (q : Square) → LaidOut f q → read_phylip_of f room ≡ answered room (some q)
  laid-answer q x = read-by ∙ ap (answered room) ((laid-out-exactly f q).1 x)

  malformed-answer : Malformed f → read_phylip_of f room ≡ refused 24
  malformed-answer n = read-by ∙ go (square_in f) refl
    where
      go : (a : Option Square) → square_in f ≡ a → answered room a ≡ refused 24
      go none e = refl
      go (some q) e = absurd (n q ((laid-out-exactly f q).0 e))

  uneven-answer : NotEven f → read_phylip_of f room ≡ refused 25
  uneven-answer x = laid-answer x.0 x.1 ∙ if-false _ _ (uneven-false x.0 x.2)

  short-answer : NoRoom f room → read_phylip_of f room ≡ refused 4
  short-answer x =
      laid-answer x.0 x.1
      ∙ if-true _ _ ((symmetric-exactly x.0).1 x.2)
      ∙ if-true _ _ (lt-ltb room (length x.0.values) (omega (arith, laid-values f x.0 x.1, x.3)))

  -- "24 malformed, 25 not symmetric or diagonal not zero, in that order, then 4"
  pub phylip-refusals-in-order : (k : ℕ) → (read_phylip_of f room ≡ refused k) ↔ PhylipRefused f room k
  phylip-refusals-in-order k = (λ e. rw e at says, back)
    where
      back : PhylipRefused f room k → read_phylip_of f room ≡ refused k
      back (inl x) = malformed-answer x.1 ∙ ap refused (sym x.0)
      back (inr (inl x)) = uneven-answer x.1 ∙ ap refused (sym x.0)
      back (inr (inr x)) = short-answer x.1 ∙ ap refused (sym x.0)

  pub twenty-four-exactly : (read_phylip_of f room ≡ refused 24) ↔ Malformed f
  twenty-four-exactly = (λ e. go ((phylip-refusals-in-order 24).0 e), malformed-answer)
    where
      go : PhylipRefused f room 24 → Malformed f
      go (inl x) = x.1
      go (inr (inl x)) = absurd (omega (arith, x.0))
      go (inr (inr x)) = absurd (omega (arith, x.0))

  pub twenty-five-exactly : (read_phylip_of f room ≡ refused 25) ↔ NotEven f
  twenty-five-exactly = (λ e. go ((phylip-refusals-in-order 25).0 e), uneven-answer)
    where
      go : PhylipRefused f room 25 → NotEven f
      go (inl x) = absurd (omega (arith, x.0))
      go (inr (inl x)) = x.1
      go (inr (inr x)) = absurd (omega (arith, x.0))

  pub four-exactly : (read_phylip_of f room ≡ refused 4) ↔ NoRoom f room
  four-exactly = (λ e. go ((phylip-refusals-in-order 4).0 e), short-answer)
    where
      go : PhylipRefused f room 4 → NoRoom f room
      go (inl x) = absurd (omega (arith, x.0))
      go (inr (inl x)) = absurd (omega (arith, x.0))
      go (inr (inr x)) = x.1

  pub matrix-given-exactly : (q : Square) → (read_phylip_of f room ≡ gives q) ↔ (LaidOut f q × Even q × (q.trees * q.trees ≤ room))
  matrix-given-exactly q = (
    λ e. rw e at says,
    λ x. laid-answer q x.0 ∙ if-true _ _ ((symmetric-exactly q).1 x.1) ∙ if-false _ _ (le-ltb room (length q.values) (omega (arith, laid-values f q x.0, x.2))),
  )

-- ---- how it is written

-- "names of any ten bytes from 32 to 126, one space or more before a value"
pub writing-makes-no-difference : (k l : Layout) → Sound k → Sound l → matrix_in k ≡ matrix_in l → (room : ℕ) → read_phylip_of (text_of k) room ≡ read_phylip_of (text_of l) room
writing-makes-no-difference k l g h e room =
    read-by (text_of k) room ∙ ap (answered room) (layout-reads k g ∙ ap some e ∙ sym (layout-reads l h)) ∙ sym (read-by (text_of l) room)
