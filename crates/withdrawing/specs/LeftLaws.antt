-- The rows that stay, the rows that they become, and what the entries of chains become. Assumes nothing.
--
--   left-none, left-more, left_less      the rows left below 0, and below one row more, which stays or does not
--   left-length                          how many there are
--   row_first, row_next, row-held        the row that a row becomes: row 0, and the row behind one that stays or does not
--   row-most, row_up, row-rises          it is no higher; higher rows become no lower ones, and higher ones where the lower row stays
--   row_same                             rows that stay and become one row are one
--   left_at                              a row that stays is among those left, where it becomes
--   Leaves p n j r, left-row             the j-th of the rows left below n is the row r; each is one
--   left-rises, left-same, left-mem      they rise, so they are all different; a member is a row that stays
--   entries-first, entries-more, entries-less, entries-length     the entries up to 0, and up to one more
--   entries_at                           those up to n are what the first n entries become
--   entries-most                         none is more than the rows left
--   entry-none, entry-stays, entry-leaves, entry-most     what an entry becomes: 0, that of a row that stays or does not; it is no higher
use Prim.Native.Nat.{ℕ, zero, suc, ◌≤◌, ◌<◌}
use native.Mathlib.Omega.{arith}
use Rattle.std.specs.Prelude.{◌≡◌, ◌⊎◌, Bool, true, false, List, [], ◌∷◌, ◌++◌}
use Rattle.std.proofs.Math.Path.{refl, sym, ap}
use Rattle.std.proofs.Common.{◌∙◌, inl, inr}
use Rattle.std.proofs.Math.ListN.{length, get_or, get_or-append, get_or-eq_default}
use Rattle.std.proofs.lemmas.List.{get_or_at}
use Rattle.theorems.specs.ListLaws.{less-or-not, if-true, if-false, Mem}
use Rattle.layout.specs.Store.{Parts, splits_in, link_in}
use Rattle.layout.specs.UpToLaws.{mem-at, one_more, each_more}
use Rattle.withdrawing.specs.Left.{stays, rows_left, new_row, entries_left, new_entry}

-- the j-th of the rows left below n is the row r
pub record Leaves (p : Parts) (n j r : ℕ) : Type 0 where
  pub below : r < n
  pub high : j ≤ r
  pub stays_here : stays p r ≡ true
  pub becomes : new_row p r ≡ j

module _ (p : Parts) where
  -- a row stays or does not
  by_row : (A : Type 0) (r : ℕ) → (stays p r ≡ true → A) → (stays p r ≡ false → A) → A
  by_row A r f g = go (stays p r) refl
    where
      go : (b : Bool) → stays p r ≡ b → A
      go true e = f e
      go false e = g e

  -- ---- the rows

  pub left-none : rows_left p 0 ≡ []
  unfolding rows_left
  left-none = refl

  pub left-more : (n : ℕ) → stays p n ≡ true → rows_left p (suc n) ≡ rows_left p n ++ n ∷ []
  unfolding rows_left
  left-more n e = if-true _ _ e

  pub left_less : (n : ℕ) → stays p n ≡ false → rows_left p (suc n) ≡ rows_left p n
  unfolding rows_left
  left_less n e = if-false _ _ e

  pub left-length : (n : ℕ) → length (rows_left p n) ≡ new_row p n
  unfolding new_row
  left-length n = refl

  pub row_first : new_row p 0 ≡ 0
  unfolding new_row rows_left
  row_first = refl

  pub row_next : (n : ℕ) → stays p n ≡ true → new_row p (suc n) ≡ suc (new_row p n)
  unfolding new_row
  row_next n e = ap length (left-more n e) ∙ one_more (rows_left p n) n

  pub row-held : (n : ℕ) → stays p n ≡ false → new_row p (suc n) ≡ new_row p n
  unfolding new_row
  row-held n e = ap length (left_less n e)

  pub row-most : (n : ℕ) → new_row p n ≤ n
  row-most zero = omega (arith, row_first)
  row-most (suc n) = let h = row-most n in by_row _ n (λ e. omega (arith, row_next n e)) (λ e. omega (arith, row-held n e))

  pub row_up : (m n : ℕ) → m ≤ n → new_row p m ≤ new_row p n
  row_up m zero h = let e : m ≡ 0 = omega arith in rw e (omega arith)
  row_up m (suc n) h = go (less-or-not n m) (row_up m n)
    where
      go : (n < m) ⊎ (m ≤ n) → (m ≤ n → new_row p m ≤ new_row p n) → new_row p m ≤ new_row p (suc n)
      go (inl l) f = let e : m ≡ suc n = omega arith in rw e (omega arith)
      go (inr l) f = let q = f l in by_row _ n (λ e. omega (arith, row_next n e)) (λ e. omega (arith, row-held n e))

  pub row-rises : (r n : ℕ) → stays p r ≡ true → r < n → new_row p r < new_row p n
  row-rises r n e h = omega (arith, row_next r e, row_up (suc r) n h)

  pub row_same : (r x : ℕ) → stays p r ≡ true → stays p x ≡ true → new_row p r ≡ new_row p x → r ≡ x
  row_same r x a b e = go (less-or-not r x) (less-or-not x r)
    where
      go : (r < x) ⊎ (x ≤ r) → (x < r) ⊎ (r ≤ x) → r ≡ x
      go (inl l) q = absurd (omega (arith, row-rises r x a l))
      go (inr l) (inl q) = absurd (omega (arith, row-rises x r b q))
      go (inr l) (inr q) = omega arith

  -- ---- which rows are left

  pub left_at : (r n : ℕ) → stays p r ≡ true → r < n → get_or (rows_left p n) (new_row p r) 0 ≡ r
  left_at r zero e h = absurd (omega arith)
  left_at r (suc n) e h = go (less-or-not r n) (left_at r n e)
    where
      go : (r < n) ⊎ (n ≤ r) → (r < n → get_or (rows_left p n) (new_row p r) 0 ≡ r) → get_or (rows_left p (suc n)) (new_row p r) 0 ≡ r
      go (inl l) f =
          by_row _ n
          (λ d. rw (left-more n d) (get_or-append (rows_left p n) (n ∷ []) 0 (new_row p r) (omega (arith, row-rises r n e l, left-length n)) ∙ f l))
          (λ d. rw (left_less n d) (f l))
      go (inr l) f = let i : r ≡ n = omega arith in rw (i, left-more n (rw i at e)) (get_or_at (rows_left p n) n [] 0 (new_row p n) (left-length n))

  left-later : (n j r : ℕ) → Leaves p n j r → Leaves p (suc n) j r
  left-later n j r f = record { below = omega (arith, f.below); high = f.high; stays_here = f.stays_here; becomes = f.becomes }

  pub left-row : (n j : ℕ) → j < new_row p n → Leaves p n j (get_or (rows_left p n) j 0)
  left-row zero j h = absurd (omega (arith, row_first))
  left-row (suc n) j h =
      by_row _ n
      (λ e.
      rw (left-more n e)
      (each_more (rows_left p n) n 0 (new_row p n) (left-length n) (Leaves p (suc n)) (λ i l. left-later n i _ (left-row n i l))
      (record { below = omega arith; high = row-most n; stays_here = e; becomes = refl }) j (rw (row_next n e) at h)))
      (λ e. rw (left_less n e) (left-later n j _ (left-row n j (rw (row-held n e) at h))))

  pub left-rises : (n i j : ℕ) → i < j → j < new_row p n → get_or (rows_left p n) i 0 < get_or (rows_left p n) j 0
  left-rises n i j h l = go (less-or-not (get_or (rows_left p n) i 0) (get_or (rows_left p n) j 0))
    where
      go : (get_or (rows_left p n) i 0 < get_or (rows_left p n) j 0) ⊎ (get_or (rows_left p n) j 0 ≤ get_or (rows_left p n) i 0) → get_or (rows_left p n) i 0 < get_or (rows_left p n) j 0
      go (inl q) = q
      go (inr q) = absurd (omega (arith, row_up _ _ q, (left-row n i (omega arith)).becomes, (left-row n j l).becomes))

  pub left-same : (n i j : ℕ) → i < new_row p n → j < new_row p n → get_or (rows_left p n) i 0 ≡ get_or (rows_left p n) j 0 → i ≡ j
  left-same n i j a b e = sym (left-row n i a).becomes ∙ ap (new_row p) e ∙ (left-row n j b).becomes

  pub left-mem : (n r : ℕ) → Mem r (rows_left p n) → (r < n) × (stays p r ≡ true)
  left-mem n r h =
      let i = mem-at (rows_left p n) r h in
      let f : Leaves p n i.0 r = rw i.2 at (left-row n i.0 (omega (arith, i.1, left-length n))) in
      (f.below, f.stays_here)

  -- ---- the entries

  pub entries-first : entries_left p 0 ≡ 0 ∷ []
  unfolding entries_left
  entries-first = refl

  pub entries-more : (n : ℕ) → stays p n ≡ true → entries_left p (suc n) ≡ entries_left p n ++ suc (new_row p n) ∷ []
  unfolding entries_left
  entries-more n e = ap (λ (x : ℕ). entries_left p n ++ x ∷ []) (if-true _ _ e)

  pub entries-less : (n : ℕ) → stays p n ≡ false → entries_left p (suc n) ≡ entries_left p n ++ get_or (entries_left p n) (link_in p n) 0 ∷ []
  unfolding entries_left
  entries-less n e = ap (λ (x : ℕ). entries_left p n ++ x ∷ []) (if-false _ _ e)

  pub entries-length : (n : ℕ) → length (entries_left p n) ≡ suc n
  unfolding entries_left
  entries-length zero = refl
  entries-length (suc n) = one_more (entries_left p n) _ ∙ ap suc (entries-length n)

  -- entries stay what they are where more rows are met
  entries-kept : (n m e : ℕ) → e ≤ n → n ≤ m → get_or (entries_left p m) e 0 ≡ get_or (entries_left p n) e 0
  unfolding entries_left
  entries-kept n zero e a b = let z : n ≡ 0 = omega arith in rw z
  entries-kept n (suc m) e a b = go (less-or-not m n) (entries-kept n m e a)
    where
      go : (m < n) ⊎ (n ≤ m) → (n ≤ m → get_or (entries_left p m) e 0 ≡ get_or (entries_left p n) e 0) → get_or (entries_left p (suc m)) e 0 ≡ get_or (entries_left p n) e 0
      go (inl l) f = let z : n ≡ suc m = omega arith in rw z
      go (inr l) f = get_or-append (entries_left p m) _ 0 e (omega (arith, entries-length m)) ∙ f l

  pub entries_at : (n e : ℕ) → e ≤ n → n ≤ splits_in p → get_or (entries_left p n) e 0 ≡ new_entry p e
  unfolding new_entry
  entries_at n e a b = sym (entries-kept n (splits_in p) e a b)

  -- the next entry too
  next-most : (n x : ℕ) → x ≤ new_row p (suc n) → ((e : ℕ) → get_or (entries_left p n) e 0 ≤ new_row p n) → (e : ℕ) → get_or (entries_left p n ++ x ∷ []) e 0 ≤ new_row p (suc n)
  next-most n x h f e = go (less-or-not e (suc (suc n)))
    where
      go : (e < suc (suc n)) ⊎ (suc (suc n) ≤ e) → get_or (entries_left p n ++ x ∷ []) e 0 ≤ new_row p (suc n)
      go (inl l) =
          each_more (entries_left p n) x 0 (suc n) (entries-length n) (λ (j y : ℕ). y ≤ new_row p (suc n)) (λ j q. omega (arith, f j, row_up n (suc n) (omega arith))) h e l
      go (inr l) = rw (get_or-eq_default (entries_left p n ++ x ∷ []) 0 {n = e} (omega (arith, one_more (entries_left p n) x, entries-length n))) (omega arith)

  pub entries-most : (n e : ℕ) → get_or (entries_left p n) e 0 ≤ new_row p n
  entries-most zero zero = rw entries-first (omega arith)
  entries-most zero (suc e) = rw entries-first (omega arith)
  entries-most (suc n) e =
      let f = entries-most n in
      by_row _ n (λ d. rw (entries-more n d) (next-most n _ (omega (arith, row_next n d)) f e))
      (λ d. rw (entries-less n d) (next-most n _ (omega (arith, row-held n d, f (link_in p n))) f e))

  pub entry-none : new_entry p 0 ≡ 0
  entry-none = sym (entries_at 0 0 (omega arith) (omega arith)) ∙ ap (λ (l : List ℕ). get_or l 0 0) entries-first

  -- the entry of the row r, which is among the entries up to it
  entry_of : (r x : ℕ) → r < splits_in p → entries_left p (suc r) ≡ entries_left p r ++ x ∷ [] → new_entry p (suc r) ≡ x
  entry_of r x h e = sym (entries_at (suc r) (suc r) (omega arith) h) ∙ ap (λ (l : List ℕ). get_or l (suc r) 0) e ∙ get_or_at (entries_left p r) x [] 0 (suc r) (entries-length r)

  pub entry-stays : (r : ℕ) → r < splits_in p → stays p r ≡ true → new_entry p (suc r) ≡ suc (new_row p r)
  entry-stays r h e = entry_of r _ h (entries-more r e)

  pub entry-leaves : (r : ℕ) → r < splits_in p → link_in p r ≤ r → stays p r ≡ false → new_entry p (suc r) ≡ new_entry p (link_in p r)
  entry-leaves r h l e = entry_of r _ h (entries-less r e) ∙ entries_at r (link_in p r) l (omega arith)

  pub entry-most : (e : ℕ) → e ≤ splits_in p → new_entry p e ≤ new_row p e
  entry-most e h = omega (arith, entries-most e e, entries_at e e (omega arith) h)
