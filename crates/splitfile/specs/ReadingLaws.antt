-- What reading a file answers and leaves in its two buffers. Assumes nothing.
--
--   read-refused          a refusal leaves both as found
--   read_as               a call that leaves the answer to another one
--   read_short, read-given     of records: 4 where either buffer is too short, else the masks and the counts
--   reading-refused, reading-good     of whole bytes: the refusal of the file, or what the records are read as
use Rattle.std.specs.Prelude.{◌≡◌, ℕ, ◌<◌, ◌≤◌, true, ◌||◌, ◌⊎◌, List, ◌++◌, length, drop, nat_lt, refl, Result, Ok, Err}
use Rattle.std.proofs.Common.{◌∙◌, inl, inr}
use borrow.Author.Tests.{lt-ltb, le-ltb}
use Rattle.trees.specs.Plain.{Answer}
use Rattle.trees.specs.SplitFile.{Record, records_in, trees_of, masks_of}
use Rattle.trees.specs.SplitFileCall.{Splits, records_from, reading_of}
use Rattle.theorems.specs.ListLaws.{or_left, or_right}
use Rattle.answers.specs.declared.Refusal.{Refusal}
use Rattle.answers.specs.declared.Refusal.TheVariants as why
use Rattle.answers.specs.Answers.{refusal_number, refusing, both_given}
use Rattle.answers.specs.Filled.{front}
use Rattle.head.specs.Head.{numbers_at}
use Rattle.layout.specs.Store.{held_at}
use Rattle.layout.specs.WholeStore.{whole_at}
use Rattle.store.specs.LentLaws.{when_whole}
use Rattle.splitfile.specs.Files.{read_asked, read_given, masks_read, counts_read, ReadAs}
use Rattle.splitfile.specs.EntryLaws.{records-length, masks-length, counts-length}
use Rattle.splitfile.specs.Form.{FormAs}
use Rattle.splitfile.specs.FormLaws.{if-refused, if-good}
use Rattle.splitfile.specs.Reading.{counts_of, splits_read}

pub read-refused : (x : Answer Splits) (masks counts : List ℕ) (r : Refusal) → x ≡ refusing r → ReadAs x (Err r) masks counts masks counts
unfolding both_given read_given masks_read counts_read front
read-refused x masks counts r e = rw e (refl, (refl, refl))

pub read_as : (x y : Answer Splits) → x ≡ y → (r : Result (ℕ × ℕ) Refusal) (masks counts m c : List ℕ) → ReadAs y r masks counts m c → ReadAs x r masks counts m c
read_as x y e r masks counts m c f = rw e f

-- ---- records

-- 4, for either buffer
either : (a b n : ℕ) → (a < n) ⊎ (b < n) → (nat_lt a n || nat_lt b n) ≡ true
either a b n (inl h) = or_left (nat_lt a n) (nat_lt b n) (lt-ltb a n h)
either a b n (inr h) = or_right (nat_lt a n) (nat_lt b n) (lt-ltb b n h)

module _ (n : ℕ) (f masks counts : List ℕ) where
  abbrev rs : List Record
  rs = records_in n f

  abbrev read : Answer Splits
  read = splits_read rs (length masks) (length counts)

  pub read_short : (length masks < n) ⊎ (length counts < n) → ReadAs read (Err why.TooShort) masks counts masks counts
  unfolding refusal_number
  read_short h = read-refused read masks counts why.TooShort (rw (records-length n f, either (length masks) (length counts) n h))

  pub read-given : (t : ℕ) (m c : List ℕ) → t ≡ trees_of rs → n ≤ length masks → n ≤ length counts
      → m ≡ masks_of rs ++ drop n masks → c ≡ counts_of rs ++ drop n counts → ReadAs read (Ok (t, n)) masks counts m c
  unfolding both_given read_given masks_read counts_read front
  read-given t m c e a b p q =
      rw (records-length n f, le-ltb (length masks) n a, le-ltb (length counts) n b, masks-length n f, counts-length n f, e) (refl, (p, q))

-- ---- a file

module _ (s f : List ℕ) (a b : ℕ) (w : whole_at s ≡ true) (n : ℕ) (e : n ≡ (numbers_at s).taxa) (r : Result ℕ Refusal) (q : FormAs (records_from n f) r) where
  whole : read_asked s f a b ≡ reading_of (held_at s) f a b
  whole = when_whole s (λ h. reading_of h f a b) w

  pub reading-refused : (k : Refusal) → r ≡ Err k → read_asked s f a b ≡ refusing k
  unfolding reading_of
  reading-refused k d = whole ∙ if-refused s f (λ rs. splits_read rs a b) n e r q k d

  pub reading-good : (k : ℕ) → r ≡ Ok k → read_asked s f a b ≡ splits_read (records_in k f) a b
  unfolding reading_of
  reading-good k d = whole ∙ if-good s f (λ rs. splits_read rs a b) n e r q k d
