-- Laws of the words of up to eight lists. Assumes nothing.
--
--   one_shifted                   1 in byte b, by a shift
--   added_more, added-end         one turn of the loop that adds to words
--   words-none, words_more        no list's words, and those of one list more
--   words_small, words-sum        the sum of words, and its bytes
--   column-none, column-more      a column, place by place
--   bytes_next, byte-first        the bytes of a word, one after another
--   column_fits                   a tree's column can be put
--   columns-none, columns-more    the columns, one by one
--   table_of                      the short lists of a whole store in the table
--   block_of, block_same          the rows that are written
use Rattle.std.specs.Prelude.{◌≡◌, ℕ, zero, suc, ◌+◌, ◌-◌, ◌*◌, ◌/◌, ◌%◌, ◌^◌, ◌<◌, ◌≤◌, Bool, true, false, ◌⊎◌, List, [], ◌∷◌, ◌++◌, length, get_or, drop, replicate, ◌≢◌, slice_index, slice_index_or, slice_set}
use Rattle.std.proofs.Math.Nat.{add-zero}
use Rattle.std.proofs.Common.{mod-eq_of_lt, ap₂, subst, ◌∙◌, inl, inr, length-append, length-set, drop_of_length-le, drop-cons, get_or-set_same, get_or-set_other}
use Rattle.std.proofs.Math.Numerals.{add-one}
use native.Mathlib.Omega.{arith}
use Rattle.std.proofs.Math.Path.{refl, sym, ap}
use Rattle.std.proofs.Math.ListN.{length-replicate, get_or-replicate}
use Rattle.trees.specs.Plain.{member}
use Rattle.trees.specs.Opening.{most_room}
use Rattle.trees.specs.Distance.{one_sided, doubled}
use Rattle.theorems.specs.ListLaws.{equal_or_not, Mem, member-mem, not-member}
use Rattle.theorems.specs.DistanceLaws.{one_sided-nil, one_sided-has, one_sided-lacks}
use Rattle.layout.specs.Store.{trees_held_at, tree_at}
use Rattle.layout.specs.WholeStore.{whole_at}
use Rattle.layout.specs.InsideLaws.{trees-few}
use Rattle.distances.specs.Marks.{mark_sum}
use Rattle.distances.specs.Short.{Different, Rows, rows_in, Shortened}
use Rattle.distances.specs.ShortLaws.{short-rows, short-doubled}
use Rattle.distances.specs.LackLaws.{one_sided-balance}
use Rattle.distances.specs.WholeTreeLaws.{head_at}
use Rattle.distances.specs.Eight.{has, shared, word_of, shared_word, byte_one, byte_at, added, SmallWords, Table, lists_in, Words, Fits, Column, Columns, Few, Block}

-- ---- what two lists share

has_in : (l : List ℕ) (k : ℕ) → member k l ≡ true → has l k ≡ 1
unfolding has
has_in l k e = rw e

has-out : (l : List ℕ) (k : ℕ) → member k l ≡ false → has l k ≡ 0
unfolding has
has-out l k e = rw e

has-most : (l : List ℕ) (k : ℕ) → has l k ≤ 1
has-most l k = go (member k l) refl
  where
    go : (b : Bool) → member k l ≡ b → has l k ≤ 1
    go true e = omega (arith, has_in l k e)
    go false e = omega (arith, has-out l k e)

shared-none : (l : List ℕ) → shared l [] ≡ 0
unfolding shared
shared-none l = refl

shared-first : (l : List ℕ) (k : ℕ) (r : List ℕ) → shared l (k ∷ r) ≡ has l k + shared l r
unfolding shared
shared-first l k r = refl

shared-lacks : (l r : List ℕ) → shared l r + one_sided r l ≡ length r
shared-lacks l [] = omega (arith, shared-none l, one_sided-nil l)
shared-lacks l (k ∷ r) = go (member k l) refl (shared-lacks l r)
  where
    go : (b : Bool) → member k l ≡ b → shared l r + one_sided r l ≡ length r → shared l (k ∷ r) + one_sided (k ∷ r) l ≡ suc (length r)
    go true e q = omega (arith, shared-first l k r, has_in l k e, one_sided-has k r l e)
    go false e q = omega (arith, shared-first l k r, has-out l k e, one_sided-lacks k r l e)

shared-most : (l r : List ℕ) → shared l r ≤ length r
shared-most l r = omega (arith, shared-lacks l r)

shared-apart : (a b : List ℕ) → Rows a → Rows b → (2 * shared a b ≤ length a + length b) × (doubled a b ≡ length a + length b - 2 * shared a b)
unfolding doubled
shared-apart a b p q =
    let e = one_sided-balance a b p.different q.different in
    (omega (arith, e, shared-lacks a b), omega (arith, e, shared-lacks a b))

-- ---- words

word_none : (k : ℕ) → word_of [] k ≡ 0
unfolding word_of
word_none k = refl

word_first : (l : List ℕ) (ls : List (List ℕ)) (k : ℕ) → word_of (l ∷ ls) k ≡ has l k + 256 * word_of ls k
unfolding word_of
word_first l ls k = refl

one-next : (b : ℕ) → byte_one (suc b) ≡ 256 * byte_one b
unfolding byte_one
one-next b = refl

module _ (l : List ℕ) (k : ℕ) where
  word_in : (ls : List (List ℕ)) → member k l ≡ true → word_of (ls ++ l ∷ []) k ≡ word_of ls k + byte_one (length ls)
  unfolding byte_one
  word_in [] e = omega (arith, word_first l [] k, word_none k, has_in l k e)
  word_in (m ∷ ls) e = omega (arith, word_first m (ls ++ l ∷ []) k, word_first m ls k, word_in ls e)

  word_out : (ls : List (List ℕ)) → member k l ≡ false → word_of (ls ++ l ∷ []) k ≡ word_of ls k
  word_out [] e = omega (arith, word_first l [] k, word_none k, has-out l k e)
  word_out (m ∷ ls) e = omega (arith, word_first m (ls ++ l ∷ []) k, word_first m ls k, word_out ls e)

-- 1 in each of n bytes
ones : ℕ → ℕ
ones zero = 0
ones (suc n) = 1 + 256 * ones n

ones-rise : (m n : ℕ) → m ≤ n → ones m ≤ ones n
unfolding ones
ones-rise zero n h = omega arith
ones-rise (suc m) zero h = absurd (omega arith)
ones-rise (suc m) (suc n) h = omega (arith, ones-rise m n (omega arith))

word_ones : (ls : List (List ℕ)) (k : ℕ) → word_of ls k ≤ ones (length ls)
unfolding ones
word_ones [] k = omega (arith, word_none k)
word_ones (l ∷ ls) k = omega (arith, word_first l ls k, has-most l k, word_ones ls k)

word-few : (ls : List (List ℕ)) (k : ℕ) → length ls ≤ 8 → word_of ls k ≤ 72340172838076673
unfolding ones
word-few ls k h = omega (arith, word_ones ls k, ones-rise (length ls) 8 h)

pub one_shifted : (b : ℕ) → b < 8 → 1 * 2 ^ (8 * b) % 2 ^ 64 ≡ byte_one b
unfolding byte_one
one_shifted zero h = refl
one_shifted (suc zero) h = refl
one_shifted (suc (suc zero)) h = refl
one_shifted (suc (suc (suc zero))) h = refl
one_shifted (suc (suc (suc (suc zero)))) h = refl
one_shifted (suc (suc (suc (suc (suc zero))))) h = refl
one_shifted (suc (suc (suc (suc (suc (suc zero)))))) h = refl
one_shifted (suc (suc (suc (suc (suc (suc (suc zero))))))) h = refl
one_shifted (suc (suc (suc (suc (suc (suc (suc (suc b)))))))) h = absurd (omega arith)

-- ---- adding to words

added-length : (v : ℕ) (l m : List ℕ) → length (added v l m) ≡ length m
unfolding added
added-length v [] m = refl
added-length v (k ∷ l) m = added-length v l (slice_set m k ((slice_index m k + v) % 2 ^ 64)) ∙ length-set m k ((slice_index m k + v) % 2 ^ 64)

added_out : (v : ℕ) (l m : List ℕ) (x : ℕ) → (Mem x l → ⊥) → slice_index (added v l m) x ≡ slice_index m x
unfolding added
added_out v [] m x n = refl
added_out v (k ∷ l) m x n =
    let w = (slice_index m k + v) % 2 ^ 64 in
    added_out v l (slice_set m k w) x (λ h. n (inr h)) ∙ get_or-set_other m k x w 0 (λ e. n (inl e))

added-in : (v : ℕ) (l m : List ℕ) (x : ℕ) → Different l → Mem x l → x < length m → slice_index (added v l m) x ≡ (slice_index m x + v) % 2 ^ 64
unfolding added
added-in v [] m x d h f = absurd h
added-in v (k ∷ l) m x d (inl e) f =
    let w = (slice_index m k + v) % 2 ^ 64 in
    ap (λ (y : ℕ). slice_index (added v l (slice_set m k w)) y) e
    ∙ added_out v l (slice_set m k w) k d.0
    ∙ get_or-set_same m k w 0 (omega (arith, e))
    ∙ ap (λ (y : ℕ). (slice_index m y + v) % 2 ^ 64) (sym e)
added-in v (k ∷ l) m x d (inr h) f =
    let w = (slice_index m k + v) % 2 ^ 64 in
    added-in v l (slice_set m k w) x d.1 h (omega (arith, length-set m k w))
    ∙ ap (λ (y : ℕ). (y + v) % 2 ^ 64) (get_or-set_other m k x w 0 (λ e. d.0 (subst (λ (y : ℕ). Mem y l) e h)))

module _ (v : ℕ) (l m : List ℕ) (j : ℕ) where
  pub added_more : (k w : ℕ) → j < length l → k ≡ slice_index l j → w ≡ (slice_index m k + v) % 2 ^ 64 → added v (drop j l) m ≡ added v (drop (j + 1) l) (slice_set m k w)
  unfolding added
  added_more k w h q e = rw (drop-cons l j 0 h, ← q, add-one j, e)

  pub added-end : length l ≤ j → added v (drop j l) m ≡ m
  unfolding added
  added-end h = rw (drop_of_length-le l h)

-- ---- sums of words

sum-none : (ls : List (List ℕ)) → shared_word ls [] ≡ 0
unfolding shared_word
sum-none [] = refl
sum-none (l ∷ ls) = omega (arith, shared-none l, sum-none ls)

sum_first : (ls : List (List ℕ)) (k : ℕ) (r : List ℕ) → shared_word ls (k ∷ r) ≡ word_of ls k + shared_word ls r
unfolding shared_word
sum_first [] k r = omega (arith, word_none k)
sum_first (l ∷ ls) k r = omega (arith, shared-first l k r, word_first l ls k, sum_first ls k r)

sum-words : (m : List ℕ) (ls : List (List ℕ)) (r : List ℕ) → ((k : ℕ) → Mem k r → slice_index m k ≡ word_of ls k) → mark_sum m r ≡ shared_word ls r
unfolding mark_sum
sum-words m ls [] f = sym (sum-none ls)
sum-words m ls (k ∷ r) f = omega (arith, sum_first ls k r, f k (inl refl), sum-words m ls r (λ x h. f x (inr h)))

bytes-shared : (ls : List (List ℕ)) (r : List ℕ) (b : ℕ) → b < length ls → length r ≤ 62 → byte_at (shared_word ls r) b ≡ shared (slice_index_or ls b []) r
unfolding byte_at shared_word
bytes-shared [] r b h f = absurd (omega arith)
bytes-shared (l ∷ ls) r zero h f = omega (arith, shared-most l r)
bytes-shared (l ∷ ls) r (suc b) h f =
    let e : (shared l r + 256 * shared_word ls r) / 256 ≡ shared_word ls r = omega (arith, shared-most l r) in
    ap (λ (w : ℕ). byte_at w b) e ∙ bytes-shared ls r b (omega arith) f

-- ---- the words of some trees' lists

module _ (short sizes : List ℕ) where
  lists-more : (n i : ℕ) → lists_in short sizes i (suc n) ≡ lists_in short sizes i n ++ rows_in short sizes (i + n) ∷ []
  unfolding lists_in
  lists-more zero i = rw add-zero
  lists-more (suc n) i =
      let e : suc i + n ≡ i + suc n = omega arith in
      ap (λ (ls : List (List ℕ)). rows_in short sizes i ∷ ls) (lists-more n (suc i) ∙ rw e)

  lists_length : (n i : ℕ) → length (lists_in short sizes i n) ≡ n
  unfolding lists_in
  lists_length zero i = refl
  lists_length (suc n) i = ap suc (lists_length n (suc i))

  lists_at : (n i b : ℕ) → b < n → slice_index_or (lists_in short sizes i n) b [] ≡ rows_in short sizes (i + b)
  unfolding lists_in
  lists_at zero i b h = absurd (omega arith)
  lists_at (suc n) i zero h = rw add-zero
  lists_at (suc n) i (suc b) h =
      let e : suc i + b ≡ i + suc b = omega arith in
      lists_at n (suc i) b (omega arith) ∙ ap (rows_in short sizes) e

  pub words-none : (i : ℕ) → Words short sizes i 0 (replicate most_room 0)
  unfolding lists_in
  words-none i = record {
    room = length-replicate {A = ℕ} most_room 0;
    words = λ k h. get_or-replicate {A = ℕ} most_room k 0 0 h ∙ sym (word_none k);
  }

  module _ (i n : ℕ) (m : List ℕ) (f : Words short sizes i n m) where
    abbrev ls : List (List ℕ)
    ls = lists_in short sizes i n

    pub words_more : (v : ℕ) (l : List ℕ) → n < 8 → v ≡ byte_one n → l ≡ rows_in short sizes (i + n) → Rows l → Words short sizes i (n + 1) (added v l m)
    words_more v l h e q r = record { room = added-length v l m ∙ f.room; words = λ k g. rw add-one (is k g) }
      where
        next : lists_in short sizes i (suc n) ≡ ls ++ l ∷ []
        next = lists-more n i ∙ ap (λ (x : List ℕ). ls ++ x ∷ []) (sym q)

        small : (k : ℕ) → word_of (ls ++ l ∷ []) k < 2 ^ 64
        small k = omega (arith, word-few (ls ++ l ∷ []) k (omega (arith, length-append ls (l ∷ []), lists_length n i)))

        is : (k : ℕ) → k < most_room → slice_index (added v l m) k ≡ word_of (lists_in short sizes i (suc n)) k
        is k g = go (member k l) refl ∙ ap (λ (x : List (List ℕ)). word_of x k) (sym next)
          where
            go : (b : Bool) → member k l ≡ b → slice_index (added v l m) k ≡ word_of (ls ++ l ∷ []) k
            go true d =
                let o : get_or m k 0 + v ≡ word_of (ls ++ l ∷ []) k = omega (arith, f.words k g, e, word_in l k ls d, ap byte_one (lists_length n i)) in
                added-in v l m k r.different (member-mem k l d) (omega (arith, f.room)) ∙ ap (λ (x : ℕ). x % 2 ^ 64) o ∙ mod-eq_of_lt (small k)
            go false d = added_out v l m k (not-member k l d) ∙ f.words k g ∙ sym (word_out l k ls d)

    pub words_small : n ≤ 8 → SmallWords m
    words_small h = record {
      room = f.room;
      small = λ k g. omega (arith, f.words k g, word-few (lists_in short sizes i n) k (omega (arith, lists_length n i)));
    }

    pub words-sum : (r : List ℕ) → ((k : ℕ) → Mem k r → k < most_room) → mark_sum m r ≡ shared_word (lists_in short sizes i n) r
    words-sum r h = sum-words m (lists_in short sizes i n) r (λ k g. f.words k (h k g))

-- ---- columns

module _ (sizes : List ℕ) (i j w : ℕ) where
  pub column-none : (old : List ℕ) → Column sizes i 0 j w old old
  column-none old = record { room = refl; here = λ b h. absurd (omega arith); there = λ b a h n. refl }

  pub column-more : (n : ℕ) (old new : List ℕ) → Column sizes i n j w old new → length old ≡ 8192 → n < 8 → j < 1024 → (d : ℕ)
      → d ≡ slice_index sizes (i + n) + slice_index sizes j - 2 * byte_at w n → Column sizes i (n + 1) j w old (slice_set new (1024 * n + j) d)
  column-more n old new f g h k d e = record {
    room = length-set new (1024 * n + j) d ∙ f.room;
    here = λ b l. is b l (equal_or_not b n);
    there = λ b a l q. get_or-set_other new (1024 * n + j) (1024 * b + a) d 0 (λ x. q (omega arith)) ∙ f.there b a l q;
  }
    where
      is : (b : ℕ) → b < n + 1 → (b ≡ n) ⊎ (b ≢ n) → slice_index (slice_set new (1024 * n + j) d) (1024 * b + j) ≡ slice_index sizes (i + b) + slice_index sizes j - 2 * byte_at w b
      is b l (inl q) = rw q (get_or-set_same new (1024 * n + j) d 0 (omega (arith, f.room)) ∙ e)
      is b l (inr q) = get_or-set_other new (1024 * n + j) (1024 * b + j) d 0 (λ x. q (omega arith)) ∙ f.here b (omega arith)

-- byte after byte
pub bytes_next : (w rest b : ℕ) → ((a : ℕ) → byte_at rest a ≡ byte_at w (b + a)) → (a : ℕ) → byte_at (rest / 256) a ≡ byte_at w (b + 1 + a)
unfolding byte_at
bytes_next w rest b f a =
    let e : b + suc a ≡ b + 1 + a = omega arith in
    f (suc a) ∙ ap (byte_at w) e

pub byte-first : (w rest b : ℕ) → ((a : ℕ) → byte_at rest a ≡ byte_at w (b + a)) → rest % 256 ≡ byte_at w b
unfolding byte_at
byte-first w rest b f = f 0 ∙ rw add-zero

module _ (short sizes : List ℕ) (trees : ℕ) (t : Table trees short sizes) (i n : ℕ) (f : i + n ≤ trees) (g : n ≤ 8) where
  pub columns-none : (out : List ℕ) → length out ≡ 8192 → Columns short sizes i n 0 out
  columns-none out e = record { room = e; put = λ b a h k. absurd (omega arith) }

  module _ (j : ℕ) (h : j < trees) (w : ℕ) (e : w ≡ shared_word (lists_in short sizes i n) (rows_in short sizes j)) where
    byte-is : (b : ℕ) → b < n → byte_at w b ≡ shared (rows_in short sizes (i + b)) (rows_in short sizes j)
    byte-is b k =
        ap (λ (x : ℕ). byte_at x b) e
        ∙ bytes-shared (lists_in short sizes i n) (rows_in short sizes j) b (omega (arith, lists_length short sizes n i)) (t.rows j h).few
        ∙ ap (λ (l : List ℕ). shared l (rows_in short sizes j)) (lists_at short sizes n i b k)

    apart : (b : ℕ) → b < n → (2 * byte_at w b ≤ slice_index sizes (i + b) + slice_index sizes j)
        × (doubled (rows_in short sizes (i + b)) (rows_in short sizes j) ≡ slice_index sizes (i + b) + slice_index sizes j - 2 * byte_at w b)
    apart b k =
        let r = shared-apart (rows_in short sizes (i + b)) (rows_in short sizes j) (t.rows (i + b) (omega arith)) (t.rows j h) in
        let x = byte-is b k in
        let y = t.sized (i + b) (omega arith) in
        let z = t.sized j h in
        (omega (arith, r.0, x, y, z), omega (arith, r.1, x, y, z))

    pub column_fits : Fits sizes i n j w
    column_fits = record {
      trees = t.trees;
      few = g;
      there = (omega (arith, t.few), omega (arith, t.few));
      own-small = omega (arith, t.sized j h, (t.rows j h).few);
      small = λ b k. omega (arith, t.sized (i + b) (omega arith), (t.rows (i + b) (omega arith)).few);
      enough = λ b k. (apart b k).0;
    }

    pub columns-more : (old new : List ℕ) → Columns short sizes i n j old → Column sizes i n j w old new → Columns short sizes i n (j + 1) new
    columns-more old new c d = record { room = d.room ∙ c.room; put = λ b a k l. is b a k l (equal_or_not a j) }
      where
        is : (b a : ℕ) → b < n → a < j + 1 → (a ≡ j) ⊎ (a ≢ j) → slice_index new (1024 * b + a) ≡ doubled (rows_in short sizes (i + b)) (rows_in short sizes a)
        is b a k l (inl q) = rw q (d.here b k ∙ sym (apart b k).1)
        is b a k l (inr q) = d.there b a (omega (arith, t.few)) q ∙ c.put b a k (omega arith)

-- ---- the rows of a whole store

module _ (s : List ℕ) (w : whole_at s ≡ true) (short sizes : List ℕ) (f : Shortened s (trees_held_at s) short sizes) where
  pub table_of : (n : ℕ) → n ≤ trees_held_at s → Table n short sizes
  table_of n h = record {
    room = f.room;
    trees = f.trees;
    few = omega (arith, trees-few s (head_at s w));
    rows = λ j k. subst Rows (sym (f.listed j (omega arith))) (short-rows s w j (omega arith));
    sized = λ j k. f.sized j (omega arith) ∙ ap length (sym (f.listed j (omega arith)));
  }

  pub block_of : (i n : ℕ) (m : List ℕ) → Few (trees_held_at s - (i - i % 8)) n → Columns short sizes (i - i % 8) n (trees_held_at s) m → Block s i m
  block_of i n m q c = record { room = c.room; rows = λ a j e h k. is a j e h k }
    where
      is : (a j : ℕ) → a / 8 ≡ i / 8 → a < trees_held_at s → j < trees_held_at s → slice_index m (1024 * (a % 8) + j) ≡ doubled (tree_at s a) (tree_at s j)
      is a j e h k =
          let x : i - i % 8 + a % 8 ≡ a = omega arith in
          let b : a % 8 < n = q.all (a % 8) (omega arith) (omega arith) in
          c.put (a % 8) j b k
          ∙ ap (λ (y : ℕ). doubled (rows_in short sizes y) (rows_in short sizes j)) x
          ∙ ap₂ doubled (f.listed a h) (f.listed j k)
          ∙ short-doubled s w a j h k

pub block_same : (s m : List ℕ) (i k : ℕ) → k / 8 ≡ i / 8 → Block s i m → Block s k m
block_same s m i k e f = record { room = f.room; rows = λ a j q. f.rows a j (q ∙ e) }
