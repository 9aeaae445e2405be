-- Which of a tree's splits are new to a store, and their rows, filled in a split at a time. Assumes nothing.
--
--   mask-mem, mem-mask          the masks of the records
--   new_none, new-old, new-next     the new ones of the first masks, a mask at a time
--   new-within                  there are no fewer of more masks
--   new-most                    and no more than masks
--   stands-more, stands-new     a mask still stands in its row where there are more behind; a row behind the first is one of those
--   row-recorded, row-known, row-unknown     a row of whole bytes is that of a recorded mask, a row behind them that of a new one
--   Filled p rs rows j new r     r, as long as rows, has the rows of the first j records' masks, of which `new` are new
--   filled_none                  at first there are none
--   filled-found, filled-missing     one more
use Rattle.std.specs.Prelude.{ℕ, zero, suc, ◌+◌, ◌-◌, ◌*◌, ◌≤◌, ◌<◌, ◌≡◌, refl, true, false, get_or, set, Option, None, Some}
use Rattle.std.proofs.Common.{add-one, arith, ap, ◌∙◌, subst, ⊎_elim, length-set, get_or-append-add, get_or-set_same, get_or-set_other}
use Rattle.std.proofs.Math.Path.{sym}
use Rattle.std.proofs.Math.Bool.{not}
use mathlib.Core.List.{List, [], ◌∷◌, ◌++◌, append_assoc, append-nil}
use Rattle.std.proofs.Math.ListN.{length, length-append, get_or-append}
use Rattle.std.proofs.Math.Seq.{get_or_at}
use Rattle.trees.specs.Plain.{member, lacking}
use Rattle.theorems.specs.ListLaws.{less-or-not, Mem, mem-member, keep-most, mem-get_d}
use Rattle.theorems.specs.LackingLaws.{lacking-append, lacking-none, lacking-old, lacking-new, lacking-mem}
use Rattle.records.specs.Records.{masks_of}
use Rattle.records.specs.RecordLaws.{masks-length, masks-at, masks-more}
use Rattle.layout.specs.Store.{Parts, parts_at, masks_in, splits_held_at, mask_at, masks_at}
use Rattle.layout.specs.StoreLaws.{shaped-at}
use Rattle.layout.specs.WholeStore.{whole_at}
use Rattle.layout.specs.WholeFacts.{whole-at-facts}
use Rattle.layout.specs.UpToLaws.{mem-at, one_more}
use Rattle.layout.specs.OrderLaws.{mem-masks}
use Rattle.recording.specs.Recording.{new_in, Stands, FoundAs, RowsOf}

module _ (n : ℕ) (rs : List ℕ) where
  pub mask-mem : (j : ℕ) → j < n → Mem (get_or rs (3 * j) 0) (masks_of n rs)
  mask-mem j h = subst (λ (x : ℕ). Mem x (masks_of n rs)) (masks-at n rs j h) (mem-get_d (masks_of n rs) j (omega (arith, masks-length n rs)))

  pub mem-mask : (m : ℕ) → Mem m (masks_of n rs) → (j : ℕ) × (j < n) × (m ≡ get_or rs (3 * j) 0)
  mem-mask m h =
      let j = mem-at (masks_of n rs) m h in
      let b : j.0 < n = omega (arith, j.1, masks-length n rs) in
      (j.0, b, sym j.2 ∙ masks-at n rs j.0 b)

-- ---- the new ones

module _ (p : Parts) (rs : List ℕ) where
  pub new_none : new_in p (masks_of 0 rs) ≡ []
  unfolding masks_of
  new_none = lacking-none (masks_in p)

  masks-next : (j : ℕ) → masks_of (j + 1) rs ≡ masks_of j rs ++ get_or rs (3 * j) 0 ∷ []
  masks-next j = rw (add-one j) (masks-more j rs)

  pub new-old : (j : ℕ) → member (get_or rs (3 * j) 0) (masks_in p) ≡ true → new_in p (masks_of (j + 1) rs) ≡ new_in p (masks_of j rs)
  new-old j e = rw (masks-next j) (lacking-old (masks_in p) (masks_of j rs) (get_or rs (3 * j) 0) e)

  pub new-next : (j : ℕ) → member (get_or rs (3 * j) 0) (masks_in p) ≡ false → new_in p (masks_of (j + 1) rs) ≡ new_in p (masks_of j rs) ++ get_or rs (3 * j) 0 ∷ []
  new-next j e = rw (masks-next j, lacking-new (masks_in p) (masks_of j rs) [] (get_or rs (3 * j) 0) e, lacking-none (masks_in p))

  pub new-within : (d j n : ℕ) → j + d ≡ n → length (new_in p (masks_of j rs)) ≤ length (new_in p (masks_of n rs))
  new-within zero j n e = let i : j ≡ n = omega arith in rw i (omega arith)
  new-within (suc d) j n e =
      let m = get_or rs (3 * j) 0 ∷ [] in
      let more = ap (new_in p) (masks-next j) ∙ lacking-append (masks_in p) (masks_of j rs) m in
      omega (arith, ap length more, length-append (new_in p (masks_of j rs)) (new_in p m), new-within d (j + 1) n (omega arith))

  pub new-most : (n : ℕ) → length (new_in p (masks_of n rs)) ≤ n
  unfolding lacking
  new-most n = omega (arith, keep-most (λ m. not (member m (masks_in p))) (masks_of n rs), masks-length n rs)

-- ---- rows

module _ (l r : List ℕ) (k m : ℕ) where
  pub stands-more : Stands l k m → Stands (l ++ r) k m
  stands-more h = (omega (arith, h.0, length-append l r), get_or-append l r 0 k h.0 ∙ h.1)

  pub stands-new : Stands (l ++ r) k m → length l ≤ k → Mem m r
  stands-new h a =
      let i = k - length l in
      let e : length l + i ≡ k = omega arith in
      let q : get_or r i 0 ≡ m = sym (get_or-append-add l r i 0) ∙ ap (λ (x : ℕ). get_or (l ++ r) x 0) e ∙ h.1 in
      subst (λ (x : ℕ). Mem x r) q (mem-get_d r i (omega (arith, h.0, length-append l r)))

module _ (s : List ℕ) (whole : whole_at s ≡ true) where
  pub row-recorded : (k m : ℕ) → k < splits_held_at s → mask_at s k ≡ m → member m (masks_at s) ≡ true
  row-recorded k m h e = mem-member m (masks_at s) (subst (λ (x : ℕ). Mem x (masks_at s)) e (mem-masks (parts_at s) (shaped-at s).order (whole-at-facts s whole).splits k h))

  module _ (n : ℕ) (rs rows : List ℕ) (r : RowsOf (parts_at s) n rs rows) (j : ℕ) (h : j < n) where
    pub row-known : get_or rows j 0 < splits_held_at s → member (get_or rs (3 * j) 0) (masks_at s) ≡ true
    row-known a =
        row-recorded (get_or rows j 0) (get_or rs (3 * j) 0) a (sym (get_or-append (parts_at s).masks (new_in (parts_at s) (masks_of n rs)) 0 (get_or rows j 0) a) ∙ (r.each j h).1)

    pub row-unknown : splits_held_at s ≤ get_or rows j 0 → member (get_or rs (3 * j) 0) (masks_at s) ≡ false
    row-unknown a =
        (lacking-mem (masks_at s) (masks_of n rs) (get_or rs (3 * j) 0) (stands-new (parts_at s).masks (new_in (parts_at s) (masks_of n rs)) _ _ (r.each j h) a)).1

-- ---- the rows of all

pub record Filled (p : Parts) (rs rows : List ℕ) (j new : ℕ) (r : List ℕ) : Type 0 where
  pub same_length : length r ≡ length rows
  pub counted : new ≡ length (new_in p (masks_of j rs))
  pub each : (i : ℕ) → i < j → Stands (p.masks ++ new_in p (masks_of j rs)) (get_or r i 0) (get_or rs (3 * i) 0)

pub filled_none : (p : Parts) (rs rows : List ℕ) → Filled p rs rows 0 0 rows
filled_none p rs rows = record { same_length = refl; counted = sym (ap length (new_none p rs)); each = λ i h. absurd (omega arith) }

module _ (s : List ℕ) (whole : whole_at s ≡ true) (rs rows : List ℕ) (j new : ℕ) (r : List ℕ) (f : Filled (parts_at s) rs rows j new r) (b : j < length rows)
    (x : Option ℕ) (d : FoundAs (parts_at s) (get_or rs (3 * j) 0) x) (new' : ℕ) (u : List ℕ) where
  abbrev m : ℕ
  m = get_or rs (3 * j) 0

  abbrev ns : List ℕ
  ns = new_in (parts_at s) (masks_of j rs)

  -- the next mask's row k, with the masks `more` new
  filled_next : (k : ℕ) (more : List ℕ) → new_in (parts_at s) (masks_of (j + 1) rs) ≡ ns ++ more → Stands (((parts_at s).masks ++ ns) ++ more) k m
      → u ≡ set r j k → new' ≡ new + length more → Filled (parts_at s) rs rows (j + 1) new' u
  filled_next k more e y q c = record {
    same_length = rw q (length-set r j k ∙ f.same_length);
    counted = rw e (omega (arith, length-append ns more, f.counted));
    each =
        λ i h.
        rw (e, q, ← append_assoc (parts_at s).masks ns more)
        (⊎_elim (λ l. rw (get_or-set_other r j i k 0 (λ g. omega arith)) (stands-more ((parts_at s).masks ++ ns) more _ _ (f.each i l)))
        (λ l. let g : i ≡ j = omega arith in rw (g, get_or-set_same r j k 0 (omega (arith, f.same_length))) y) (less-or-not i j));
  }

  pub filled-found : (k : ℕ) → x ≡ Some k → u ≡ set r j k → new' ≡ new → Filled (parts_at s) rs rows (j + 1) new' u
  unfolding FoundAs
  filled-found k e q c =
      let y : Stands (parts_at s).masks k m = rw e at d in
      let z = new-old (parts_at s) rs j (row-recorded s whole k m y.0 y.1) in
      filled_next k [] (z ∙ sym (append-nil ns)) (stands-more ((parts_at s).masks ++ ns) [] k m (stands-more (parts_at s).masks ns k m y)) q (omega arith)

  pub filled-missing : (held : ℕ) → held ≡ splits_held_at s → x ≡ None → u ≡ set r j (held + new) → new' ≡ new + 1 → Filled (parts_at s) rs rows (j + 1) new' u
  unfolding FoundAs
  filled-missing held h e q c =
      let i : length ((parts_at s).masks ++ ns) ≡ held + new = omega (arith, length-append (parts_at s).masks ns, f.counted) in
      filled_next (held + new) (m ∷ []) (new-next (parts_at s) rs j (rw e at d))
      (omega (arith, i, one_more ((parts_at s).masks ++ ns) m), get_or_at ((parts_at s).masks ++ ns) m [] 0 (held + new) i) q (omega arith)
