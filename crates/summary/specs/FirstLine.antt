-- The first line, taken in pieces and kept in a lent buffer; and the opening that it asks for.
--
--   Kept                  what is kept of a line: how many bytes, how many spaces outside quotes (at most 64), whether quotes are open
--                         behind its bytes, those that were not kept too, and the buffer
--   kept_with k b          with one byte more: one that does not fit counts only as a space or a quote
--   kept_after k p         with the bytes p more
--   line_taken p           how many bytes of the piece p are the line's, its LF with them
--   TakenAs k p r out     taking the piece p answers r and leaves the buffer `out`
--   kept_opening k lent    the opening that the line asks for, by what is kept of it
--   Keeps room v k        k is what is kept of the line v so far, in a buffer of `room` bytes
use Rattle.std.specs.Prelude.{ℕ, suc, ◌≡◌, Bool, false, ◌&&◌, not, List, [], ◌∷◌, ltb, eqb, length, take, set, if◌then◌else◌}
use Rattle.trees.specs.Plain.{member, byte, Answer}
use Rattle.trees.specs.Text.{turned, open_after}
use Rattle.trees.specs.Opening.{Opening}
use Rattle.trees.specs.Names.{name_count}
use Rattle.summary.specs.declared.LinePart.{LinePart}
use Rattle.summary.specs.declared.Taken.{Taken}
use Rattle.summary.specs.Summary.{first_line, names_opening}

pub record Kept : Type 0 where
  pub used : ℕ
  pub spaces : ℕ
  pub quoted : Bool
  pub bytes : List ℕ

-- 64 spaces are too many already
unfoldable pub spaces_with : ℕ → Bool → ℕ → ℕ
spaces_with n q b = if (not q && eqb b (byte " ")) && ltb n 64 then suc n else n

unfoldable pub used_with : ℕ → List ℕ → ℕ
used_with n out = if ltb n (length out) then suc n else n

unfoldable pub kept_with : Kept → ℕ → Kept
unfolding used_with spaces_with turned
kept_with k b = record {
  used = used_with k.used k.bytes;
  spaces = spaces_with k.spaces k.quoted b;
  quoted = turned k.quoted b;
  bytes = set k.bytes k.used b;
}

unfoldable pub kept_after : Kept → List ℕ → Kept
unfolding kept_with
kept_after k [] = k
kept_after k (b ∷ p) = kept_after (kept_with k b) p

unfoldable pub line_taken : List ℕ → ℕ
unfolding first_line member
line_taken p = if member (byte "\n") p then suc (length (first_line p)) else length p

-- what is kept, as the code has it
abbrev pub kept_of : LinePart → List ℕ → Kept
kept_of line out = record { used = line.used; spaces = line.spaces; quoted = line.quoted; bytes = out }

pub record TakenAs (k : Kept) (p : List ℕ) (r : Taken) (out : List ℕ) : Type 0 where
  pub taken : r.taken ≡ line_taken p
  pub ended : r.ended ≡ member (byte "\n") p
  pub line : kept_of r.line out ≡ kept_after k (first_line p)

unfoldable pub kept_opening : Kept → ℕ → Answer Opening
unfolding names_opening
kept_opening k lent = names_opening (suc k.spaces) (take k.used k.bytes) lent

-- the names are counted up to 65, which are too many
abbrev pub few : ℕ → ℕ
few n = if ltb n 65 then n else 65

pub record Keeps (room : ℕ) (v : List ℕ) (k : Kept) : Type 0 where
  pub size : length k.bytes ≡ room
  pub used : k.used ≡ length (take room v)
  pub bytes : take k.used k.bytes ≡ take room v
  pub spaces : suc k.spaces ≡ few (name_count v)
  pub quoted : k.quoted ≡ open_after false v
