-- What writing the collection's splits answers, and its records one after another. Assumes nothing.
--
-- of whole bytes:
--   splits-length           as many records as there are splits
--   split-record            record k, as it is read of split number k
--   file-short, file-given     4 where the buffer is too short, else the file at its front
use Rattle.std.specs.Prelude.{◌≡◌, ℕ, ◌*◌, ◌<◌, ◌≤◌, true, List, length, get_or, slice_index_or, Ok, Err}
use Rattle.std.proofs.Common.{arith, sym, ◌∙◌}
use Rattle.std.proofs.Math.Path.{ap}
use Rattle.std.proofs.Math.ListN.{length-map, get_or-map}
use Rattle.trees.specs.Consensus.{recorded, count}
use Rattle.trees.specs.Questions.{if_room}
use Rattle.trees.specs.SplitFile.{Record, record_bytes, bytes_of, splits_of}
use Rattle.trees.specs.SplitFileCall.{file_of}
use Rattle.answers.specs.declared.Refusal.TheVariants as why
use Rattle.answers.specs.Filled.{FilledAs}
use Rattle.answers.specs.AnswerLaws.{filled-short, filled-given}
use Rattle.layout.specs.Store.{trees_held_at, splits_held_at, mask_at, count_at, order_at, split_at, held_at}
use Rattle.layout.specs.WholeStore.{whole_at}
use Rattle.store.specs.SplitLaws.{split-read}
use Rattle.store.specs.CountsLaws.{row_count, split-count}
use Rattle.store.specs.RecordedAtLaws.{trees-length, recorded-length, recorded-mask}
use Rattle.store.specs.LentLaws.{when_whole}
use Rattle.splitfile.specs.Files.{file_asked}
use Rattle.splitfile.specs.Entries.{with_records}
use Rattle.splitfile.specs.EntryLaws.{bytes-length}

module _ (s : List ℕ) (w : whole_at s ≡ true) where
  abbrev ts : List (List ℕ)
  ts = (held_at s).trees

  abbrev splits : List Record
  splits = splits_of ts

  abbrev record_of : ℕ → Record
  record_of m = record { mask = m; count = count ts m; trees = length ts }

  pub splits-length : length splits ≡ splits_held_at s
  unfolding splits_of
  splits-length = length-map (recorded ts) record_of ∙ recorded-length s w

  pub split-record : (k row m c t : ℕ) → k < splits_held_at s → row ≡ order_at s k → m ≡ mask_at s row → c ≡ count_at s row → t ≡ trees_held_at s
      → ◌≡◌ {A = Record} (record { mask = m; count = c; trees = t }) (slice_index_or splits k (record_of 0))
  unfolding splits_of
  split-record k row m c t h e p q n =
      let is : get_or splits k (record_of 0) ≡ record_of (split_at s k) = get_or-map record_of (recorded ts) k 0 ∙ ap record_of (recorded-mask s w k h) in
      rw (is, split-count s w k h, trees-length s, split-read s k row m e p, row_count s k row c e q, n)

  module _ (out : List ℕ) where
    asked : file_asked s (length out) ≡ if_room (length out) (bytes_of splits)
    unfolding file_of
    asked = when_whole s (λ h. file_of h (length out)) w

    module _ (n : ℕ) (e : n ≡ splits_held_at s) where
      bytes : length (bytes_of splits) ≡ record_bytes * n
      bytes = bytes-length splits ∙ rw (splits-length, e)

      pub file-short : length out < record_bytes * n → FilledAs (file_asked s (length out)) (Err why.TooShort) out out
      file-short h = filled-short (file_asked s (length out)) out (bytes_of splits) asked (omega (arith, bytes))

      pub file-given : (m : List ℕ) → record_bytes * n ≤ length out → m ≡ with_records splits out
          → FilledAs (file_asked s (length out)) (Ok (record_bytes * n)) out m
      file-given m h q =
          filled-given (file_asked s (length out)) out (bytes_of splits) asked (record_bytes * n) m (sym bytes) h (rw bytes-length q)
