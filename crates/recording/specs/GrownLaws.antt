-- How a store grows by the new splits of a tree, a split at a time. Assumes nothing.
--
--   grown-none                  at first nothing has grown
--   grown-head                  the head stays in order
--   grown-old                   a split that the store has changes nothing
--   next-asks                   what adding a new split asks
--   grown-new                   a new split stands in its row
--   grown-kept                  bytes with the same parts have grown alike
--   lengths-asks, lengths-in    what putting the tree's lengths asks, and what it leaves
use Rattle.std.specs.Prelude.{ℕ, ◌+◌, ◌-◌, ◌*◌, ◌≤◌, ◌<◌, ◌≡◌, refl, true, false, List, [], ◌∷◌, ◌++◌, map, length, get_or, take}
use Rattle.std.proofs.Common.{arith, sym, ap₂, ◌∙◌, subst, ⊎_elim, true≢false, append_assoc, append-nil, length-append}
use Rattle.std.proofs.Math.Path.{ap}
use Rattle.trees.specs.Plain.{every, member}
use Rattle.trees.specs.Mask.{proper}
use Rattle.trees.specs.Hash.{identifier}
use Rattle.trees.specs.Opening.{Numbers}
use Rattle.trees.specs.Whole.{good_tree}
use Rattle.theorems.specs.ListLaws.{and_left, and_right, Mem, mem-cases, member-not, every-at, mem-get_d}
use Rattle.theorems.specs.LackingLaws.{lacking-mem}
use Rattle.theorems.specs.OpeningLaws.{good-opening}
use Rattle.theorems.specs.RisingLaws.{rising-true}
use Rattle.records.specs.Records.{masks_of}
use Rattle.records.specs.RecordLaws.{masks-length, masks-at}
use Rattle.head.specs.Head.{numbers_at, second_at, opening_at}
use Rattle.layout.specs.Store.{Parts, branches_of, parts_at, splits_held_at, masks_at, held_in}
use Rattle.layout.specs.Becomes.{Becomes}
use Rattle.layout.specs.WholeStore.{whole_at, place_in}
use Rattle.layout.specs.WholeFacts.{HeadAt, whole-at-facts}
use Rattle.layout.specs.Sound.{Sound, whole-sound}
use Rattle.layout.specs.UpToLaws.{mem-at, one_more, rising-at}
use Rattle.layout.specs.OrderLaws.{masks-mem}
use Rattle.layout.specs.OpeningKeptLaws.{numbers-held, first-held, second-held, size-held, head-held}
use Rattle.recording.specs.Added.{Added, next_lengths, LengthsPut, with_split}
use Rattle.recording.specs.SplitSoundLaws.{split-sound, split-held}
use Rattle.recording.specs.Recording.{SplitsOf, length_of_word, lengths_given, LengthsOf, new_in, RowsOf, Grown}
use Rattle.recording.specs.NewLaws.{mask-mem, mem-mask, new_none, new-old, new-next, new-within, row-recorded, row-known, row-unknown}

module _ (s : List ℕ) (whole : whole_at s ≡ true) (n : ℕ) (rs : List ℕ) where
  abbrev new : ℕ → List ℕ
  new j = new_in (parts_at s) (masks_of j rs)

  pub grown-none : Grown s (new_in (parts_at s) (masks_of 0 rs)) s
  grown-none = record {
    sound = whole-sound s whole;
    masks = rw (new_none (parts_at s) rs) (sym (append-nil (parts_at s).masks));
    lists = refl;
    held = refl;
    opening = refl;
    size = refl;
    behind = λ i h. refl;
  }

  module _ (room : splits_held_at s + length (new_in (parts_at s) (masks_of n rs)) ≤ (numbers_at s).split_room) (j : ℕ) (u : List ℕ) (g : Grown s (new_in (parts_at s) (masks_of j rs)) u) where
    grown-number : splits_held_at u ≡ splits_held_at s + length (new_in (parts_at s) (masks_of j rs))
    grown-number = ap length g.masks ∙ length-append (parts_at s).masks (new j)

    pub grown-head : j ≤ n → HeadAt u
    grown-head b =
        let h = (whole-at-facts s whole).head in
        head-held s u g.opening h g.size (omega (arith, ap length g.lists, h.trees-fit))
        (omega (arith, grown-number, room, new-within (parts_at s) rs (n - j) j n (omega arith)))

    module _ (t : SplitsOf s n rs) (rows : List ℕ) (r : RowsOf (parts_at s) n rs rows) (h : j < n) where
      abbrev next : ℕ
      next = get_or rs (3 * j) 0

      pub grown-old : get_or rows j 0 < splits_held_at s → Grown s (new_in (parts_at s) (masks_of (j + 1) rs)) u
      grown-old b = rw (new-old (parts_at s) rs j (row-known s whole n rs rows r j h b)) g

      module _ (b : splits_held_at s ≤ get_or rows j 0) where
        more : new_in (parts_at s) (masks_of (j + 1) rs) ≡ new j ++ next ∷ []
        more = new-next (parts_at s) rs j (row-unknown s whole n rs rows r j h b)

        next-proper : proper (numbers_at u).taxa next ≡ true
        unfolding good_tree
        next-proper =
            rw (numbers-held s u g.opening) (every-at (proper (numbers_at s).taxa) (masks_of n rs) (and_left _ _ t.good) next (mask-mem n rs j h))

        -- it is none of the splits before it, for a tree's masks rise
        not-before : Mem next (new j) → ⊥
        unfolding good_tree
        not-before q =
            let i = mem-mask j rs next (lacking-mem (masks_at s) (masks_of j rs) next q).0 in
            let b : i.0 < n = omega (arith, i.1, h) in
            let rise = rising-true (masks_of n rs) (and_left _ _ (and_right (every (proper (numbers_at s).taxa) (masks_of n rs)) _ t.good)) in
            omega (arith, rising-at (masks_of n rs) rise i.0 j i.1 (omega (arith, masks-length n rs)), masks-at n rs i.0 b, masks-at n rs j h, i.2)

        next-new : member next (masks_at u) ≡ false
        next-new =
            member-not next (masks_at u) (λ q.
            let k = masks-mem (parts_at u) g.sound.shaped.order g.sound.splits next q in
            let old : Mem next (parts_at s).masks → ⊥ =
            λ a.
            let i = mem-at (parts_at s).masks next a in
            true≢false (sym (row-recorded s whole i.0 next i.1 i.2) ∙ row-unknown s whole n rs rows r j h b) in
            ⊎_elim old not-before (mem-cases next (parts_at s).masks (new j) (subst (Mem next) g.masks (rw k.2 (mem-get_d (parts_at u).masks k.0 k.1)))))

        pub next-asks : (HeadAt u × Sound (opening_at u) (parts_at u))
            × ((splits_held_at u < (numbers_at u).split_room)
            × ((proper (numbers_at u).taxa (get_or rs (3 * j) 0) ≡ true)
            × ((member (get_or rs (3 * j) 0) (masks_at u) ≡ false)
            × ((get_or rs (3 * j + 1) 0 ≡ place_in u (get_or rs (3 * j) 0)) × (get_or rs (3 * j + 2) 0 ≡ identifier (second_at u) (get_or rs (3 * j) 0))))))
        next-asks =
            let e = numbers-held s u g.opening in
            let a = new-within (parts_at s) rs (n - (j + 1)) (j + 1) n (omega arith) in
            let left : splits_held_at u < (numbers_at u).split_room = rw e (omega (arith, grown-number, room, a, ap length more, one_more (new j) next)) in
            let placed : get_or rs (3 * j + 1) 0 ≡ place_in u next = rw (first-held s u g.opening, e) (t.placed j h) in
            ((grown-head (omega arith), g.sound), (left, (next-proper, (next-new, (placed, rw (second-held s u g.opening) (t.identified j h))))))

        pub grown-new : (v : List ℕ) → Added u (get_or rs (3 * j) 0) v → Grown s (new_in (parts_at s) (masks_of (j + 1) rs)) v
        unfolding with_split
        grown-new v a =
            let places = (good-opening (opening_at u) (grown-head (omega arith)).opening-good).ranges.least-places in
            record {
              sound = rw (a.opening, a.parts) (split-sound (opening_at u) next (parts_at u) g.sound (unfold opening_at in next-proper) next-new places);
              masks = ap (λ (p : Parts). p.masks) a.parts ∙ rw (g.masks, more) (append_assoc (parts_at s).masks (new j) (next ∷ []));
              lists = ap (λ (p : Parts). p.lists) a.parts ∙ g.lists;
              held = rw (a.opening, a.parts) (split-held (opening_at u) next (parts_at u) g.sound) ∙ g.held;
              opening = a.opening ∙ g.opening;
              size = a.size ∙ g.size;
              behind = λ i q. a.behind i (omega (arith, size-held s u g.opening)) ∙ g.behind i q;
            }

pub grown-kept : (s ms u v : List ℕ) → Grown s ms u → Becomes u (parts_at u) v → Grown s ms v
unfolding held_in
grown-kept s ms u v g b = record {
  sound = rw (b.opening, b.parts) g.sound;
  masks = ap (λ (p : Parts). p.masks) b.parts ∙ g.masks;
  lists = ap (λ (p : Parts). p.lists) b.parts ∙ g.lists;
  held = ap₂ held_in b.opening b.parts ∙ g.held;
  opening = b.opening ∙ g.opening;
  size = b.size ∙ g.size;
  behind = λ i h. b.behind i (omega (arith, size-held s u g.opening)) ∙ g.behind i h;
}

module _ (s ms u : List ℕ) (g : Grown s ms u) (n : ℕ) (ws : List ℕ) where
  pub lengths-asks : LengthsOf s n ws → branches_of (numbers_at u) n ≤ length ws
  lengths-asks l = rw (numbers-held s u g.opening) l.reach

  pub lengths-in : (v : List ℕ) → LengthsPut u n ws v → next_lengths v n ≡ lengths_given s n ws
  lengths-in v p = p.lengths ∙ ap (λ (x : Numbers). map length_of_word (take (branches_of x n) ws)) (numbers-held s u g.opening)
