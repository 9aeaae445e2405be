-- Whether there is room for a tree, and the tree recorded behind its new splits. Assumes nothing.
--
--   no-tree-room, no-split-room     11 and 12
--   refuses                         a refusal that changes nothing
--   trees-in, rows_in               what listing the tree asks
--   records                         the tree is recorded
use Rattle.std.specs.Prelude.{ℕ, ◌+◌, ◌*◌, ◌≤◌, ◌<◌, ◌≡◌, refl, ◌⊎◌, true, ltb, eqb, get_or, take, if◌then◌else◌, Result, Option}
use Rattle.std.proofs.Common.{arith, sym, ◌∙◌, subst, inl, inr, length-take-le, get_or-take, ext_get_or, lt-ltb, le-ltb, eq-eqb, ne_eqb}
use Rattle.std.proofs.Math.Path.{ap, ap₂}
use mathlib.Core.List.{List, ◌++◌, map}
use Rattle.std.proofs.Math.ListN.{length}
use Rattle.trees.specs.Plain.{every, Answer, refused, gives}
use Rattle.trees.specs.Mask.{proper}
use Rattle.trees.specs.Consensus.{count}
use Rattle.trees.specs.Opening.{store_size}
use Rattle.trees.specs.Value.{Length}
use Rattle.trees.specs.Verdict.{Branches}
use Rattle.trees.specs.Held.{Held, new_splits, room_for, with_tree, accepted}
use Rattle.trees.specs.Whole.{rising, good_tree}
use Rattle.theorems.specs.ListLaws.{and_left, and_right, Mem, mem-member, less-or-not, mem-get_d}
use Rattle.theorems.specs.LackingLaws.{lacking-mem}
use Rattle.theorems.specs.RisingLaws.{rising-true}
use Rattle.answers.specs.Answers.{progress_given}
use Rattle.records.specs.Records.{masks_of}
use Rattle.records.specs.RecordLaws.{masks-length, masks-at}
use Rattle.head.specs.Head.{numbers_at, opening_at}
use Rattle.layout.specs.Store.{size_at, branches_of, parts_at, mask_in, count_in, trees_held_at, splits_held_at, masks_at, held_at}
use Rattle.layout.specs.Becomes.{Becomes}
use Rattle.layout.specs.StoreLaws.{lengths-length}
use Rattle.layout.specs.WholeStore.{listed_in, whole_at}
use Rattle.layout.specs.WholeFacts.{HeadAt, whole-at-facts}
use Rattle.layout.specs.Sound.{Sound, parts_whole}
use Rattle.layout.specs.UpToLaws.{length-map, map_at, mem-at, one_more, one_if}
use Rattle.layout.specs.OrderLaws.{mask-same}
use Rattle.layout.specs.OpeningKeptLaws.{numbers-held, size-held}
use Rattle.store.specs.RecordedAtLaws.{trees-length, recorded-at, recorded-length}
use Rattle.store.specs.HeldWholeLaws.{held-numbers}
use Rattle.store.specs.Lent.{Holds}
use Rattle.recording.specs.Added.{with_list, Rows, next_lengths, Listed}
use Rattle.recording.specs.ListSoundLaws.{list_counted, list-sound, list_held}
use Rattle.recording.specs.Recording.{SplitsOf, lengths_given, LengthsOf, tree_given, new_in, Stands, RowsOf, Grown, Accepts}
use Rattle.recording.specs.NewLaws.{mem-mask, stands-new}
use Rattle.recording.specs.GrownLaws.{grown-head}
use Rattle.answers.specs.declared.Refusal.{Refusal}
use Rattle.answers.specs.declared.Tree.{Tree}

-- ---- the verdict

module _ (s : List ℕ) (b : Branches) (w : whole_at s ≡ true) where
  room : room_for (held_at s) b
      ≡ (if eqb (trees_held_at s) (numbers_at s).tree_room then refused 11
      else if ltb (numbers_at s).split_room (splits_held_at s + length (new_in (parts_at s) b.splits)) then refused 12 else gives b)
  unfolding room_for new_splits
  room = rw (trees-length s, recorded-length s w, held-numbers s, recorded-at s w)

  pub no-tree-room : trees_held_at s ≡ (numbers_at s).tree_room → room_for (held_at s) b ≡ refused 11
  no-tree-room e = room ∙ rw (eq-eqb _ _ e)

  module _ (d : trees_held_at s ≡ (numbers_at s).tree_room → ⊥) where
    pub no-split-room : (numbers_at s).split_room < splits_held_at s + length (new_in (parts_at s) b.splits) → room_for (held_at s) b ≡ refused 12
    no-split-room h = room ∙ rw (ne_eqb _ _ d, lt-ltb _ _ h)

    room-enough : splits_held_at s + length (new_in (parts_at s) b.splits) ≤ (numbers_at s).split_room → room_for (held_at s) b ≡ gives b
    room-enough h = room ∙ rw (ne_eqb _ _ d, le-ltb _ _ h)

pub refuses : (a : Answer Branches) (s : List ℕ) (r : Result (Option Tree) Refusal) (k : ℕ) → a ≡ refused k → progress_given r ≡ refused k → Accepts a s r s
unfolding Accepts
refuses a s r k e q = rw e (q, refl)

-- ---- the tree behind its new splits

module _ (s : List ℕ) (whole : whole_at s ≡ true) (n : ℕ) (rs : List ℕ) (t : SplitsOf s n rs) (d : trees_held_at s ≡ (numbers_at s).tree_room → ⊥)
    (rows : List ℕ) (r : RowsOf (parts_at s) n rs rows) (u : List ℕ) (g : Grown s (new_in (parts_at s) (masks_of n rs)) u) where
  pub trees-in : trees_held_at u < (numbers_at u).tree_room
  trees-in = rw (numbers-held s u g.opening) (omega (arith, d, ap length g.lists, (whole-at-facts s whole).head.trees-fit))

  rows-length : length (take n rows) ≡ n
  rows-length = length-take-le n rows r.reach

  stands : (j : ℕ) → j < n → Stands (parts_at u).masks (get_or (take n rows) j 0) (get_or rs (3 * j) 0)
  stands j h = rw (g.masks, get_or-take n rows j 0 h) (r.each j h)

  tree-in : map (mask_in (parts_at u)) (take n rows) ≡ masks_of n rs
  tree-in =
      let a = length-map (mask_in (parts_at u)) (take n rows) in
      ext_get_or 0 _ _ (a ∙ rows-length ∙ sym (masks-length n rs)) (λ i h.
      let c : i < n = omega (arith, rows-length) in
      map_at (mask_in (parts_at u)) (take n rows) i (omega arith) ∙ (stands i c).1 ∙ sym (masks-at n rs i c))

  pub rows_in : Rows (parts_at u) (take n rows)
  unfolding good_tree
  rows_in =
      let b = and_right (every (proper (numbers_at s).taxa) (masks_of n rs)) _ t.good in
      record {
        few = omega (arith, rows-length, t.few);
        below = λ k h. let i = mem-at (take n rows) k h in rw (← i.2) (stands i.0 (omega (arith, i.1, rows-length))).0;
        rises = rw tree-in (rising-true (masks_of n rs) (and_left _ _ b));
        agrees = rw tree-in (and_right (rising (masks_of n rs)) _ b);
      }

  -- a split that the store has is listed as often as before; a row behind its rows is one of the tree's
  old-count : (k : ℕ) → k < splits_held_at u → k < splits_held_at s → 1 ≤ count_in (parts_at u) k
  unfolding listed_in
  old-count k b h =
      let c = (whole-at-facts s whole).counts k h in
      omega (arith, g.sound.counts k b, ap (λ (l : List (List ℕ)). count (take (length l) l) k) g.lists, c.some-tree, c.counted)

  new_row : (k : ℕ) → k < splits_held_at u → splits_held_at s ≤ k → Mem k (take n rows)
  new_row k h b =
      let f : Stands ((parts_at s).masks ++ new_in (parts_at s) (masks_of n rs)) k (mask_in (parts_at u) k) = rw (← g.masks) (h, refl) in
      let m = (lacking-mem (masks_at s) (masks_of n rs) (mask_in (parts_at u) k) (stands-new (parts_at s).masks (new_in (parts_at s) (masks_of n rs)) _ _ f b)).0 in
      let j = mem-mask n rs (mask_in (parts_at u) k) m in
      let y = stands j.0 j.1 in
      let e : get_or (take n rows) j.0 0 ≡ k = mask-same (parts_at u) g.sound.shaped.order g.sound.splits _ k y.0 h (y.1 ∙ sym j.2) in
      subst (λ (x : ℕ). Mem x (take n rows)) e (mem-get_d (take n rows) j.0 (omega (arith, j.1, rows-length)))

  module _ (ws : List ℕ) (good : LengthsOf s n ws) (lengths : next_lengths u n ≡ lengths_given s n ws)
      (room_in : splits_held_at s + length (new_in (parts_at s) (masks_of n rs)) ≤ (numbers_at s).split_room) (v : List ℕ) (l : Listed u (take n rows) v) where
    abbrev xs : List Length
    xs = lengths_given s n ws

    listed : Becomes u (with_list (take n rows) (lengths_given s n ws) (parts_at u)) v
    listed = subst (λ (x : List Length). Becomes u (with_list (take n rows) x (parts_at u)) v) (ap (next_lengths u) rows-length ∙ lengths) l

    sound : Sound (opening_at u) (with_list (take n rows) (lengths_given s n ws) (parts_at u))
    unfolding opening_at
    sound =
        let long : length xs ≡ branches_of (numbers_at u) (length (take n rows)) = ap length (sym lengths) ∙ rw rows-length (lengths-length u _ _) in
        list-sound (opening_at u) (take n rows) xs (parts_at u) g.sound rows_in long good.good

    -- each split is listed by a tree: an old one was, and a new one is now
    some-tree : (k : ℕ) → k < splits_held_at u → (k < splits_held_at s) ⊎ (splits_held_at s ≤ k) → 1 ≤ count_in (with_list (take n rows) (lengths_given s n ws) (parts_at u)) k
    unfolding one_if
    some-tree k b (inl a) = omega (arith, list_counted (take n rows) xs (parts_at u) k b, old-count k b a)
    some-tree k b (inr a) = omega (arith, rw (mem-member k (take n rows) (new_row k b a)) at (list_counted (take n rows) xs (parts_at u) k b))

    recorded : Holds (with_tree (held_at s) (tree_given s n rs ws)) s v
    unfolding with_tree with_list size_at
    recorded =
        let p = with_list (take n rows) xs (parts_at u) in
        let h : HeadAt u = grown-head s whole n rs room_in n u g (omega arith) in
        let size : store_size (held_at s).opening.numbers ≡ size_at s = ap store_size (held-numbers s) in
        record {
          whole =
              parts_whole u v p h l.size l.opening listed.parts sound (omega (arith, one_more (parts_at u).lists (take n rows), trees-in)) h.splits-fit
              (λ k b. some-tree k b (less-or-not k (splits_held_at s)));
          held =
              rw (l.opening, listed.parts) (list_held (opening_at u) (take n rows) xs (parts_at u))
              ∙ ap₂ (λ (x : Held) (y : List ℕ). with_tree x (record { splits = y; lengths = xs })) g.held tree-in;
          size = l.size ∙ g.size;
          behind = λ i b. l.behind i (omega (arith, size, size-held s u g.opening)) ∙ g.behind i (omega (arith, size));
        }

    pub records : (a : Result (Option Tree) Refusal) → progress_given a ≡ gives (accepted (trees_held_at s)) → Accepts (room_for (held_at s) (tree_given s n rs ws)) s a v
    unfolding Accepts
    records a q = rw (room-enough s (tree_given s n rs ws) whole d room_in) (q, recorded)
