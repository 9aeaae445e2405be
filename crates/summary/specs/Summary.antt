-- The summary program: what `treesum` prints for an input.
--
--   first_line s, behind_line s     the first line of s, and what stands behind its end
--   first_constant, second_constant     the constants of taxon i
--   names_opening n list lent      the opening of n taxa with a name list, in `lent` bytes, or its refusal
--   summary_opening line lent      the opening that the first line asks for
--   summary_lines o texts          the lines printed behind an accepted opening
--   printed_lines a texts          the lines printed where the opening is a, or its refusal
--   lines_for input                all lines that are printed
--   summary input                 and their bytes, one behind another
use Rattle.std.specs.Prelude.{ℕ, ◌*◌, ◌%◌, ◌^◌, ◌≡◌, refl, false, List, [], ◌∷◌, eqb, if◌then◌else◌}
use Rattle.trees.specs.Plain.{bytes, byte, Answer, refused, gives}
use Rattle.trees.specs.Opening.{Numbers, Opening, opening}
use Rattle.trees.specs.Held.{opened, closing}
use Rattle.trees.specs.Batch.{texts_in, refused_in, refused_after, Batched, batching}
use Rattle.trees.specs.Names.{name_count}
use Rattle.head.specs.Head.{up_to}
use Rattle.putting.specs.Lines.{bytes_of}
use Rattle.sheet.specs.Sheet.{sheet_lines, refusal_line}

-- "The line ends before its LF, or where the input ends"
unfoldable pub first_line : List ℕ → List ℕ
first_line [] = []
first_line (b ∷ s) = if eqb b (byte "\n") then [] else b ∷ first_line s

unfoldable pub behind_line : List ℕ → List ℕ
behind_line [] = []
behind_line (b ∷ s) = if eqb b (byte "\n") then s else behind_line s

-- "one lane, closed at the end, 48 trees, 256 splits"; two places a split; no lengths are kept: "if not (as in `treesum`), all is as before"
unfoldable pub summary_numbers : ℕ → Numbers
summary_numbers n = record { taxa = n; lanes = 1; tree_room = 48; split_room = 256; places = 512; kept = 0 }

-- constants are free: these spread the places, and make a split's identifier its mask
unfoldable pub first_constant : ℕ → ℕ
first_constant i = 37 * (i * i) % 512

unfoldable pub second_constant : ℕ → ℕ
second_constant i = 2 ^ i

-- the opening of n taxa with a name list
unfoldable pub names_opening : ℕ → List ℕ → ℕ → Answer Opening
unfolding opening summary_numbers up_to first_constant second_constant
names_opening n list lent = opening (summary_numbers n) list (up_to first_constant n) (up_to second_constant n) lent

-- "a count outside 4 to 64 gives 2, any other fault 3"
unfoldable pub summary_opening : List ℕ → ℕ → Answer Opening
unfolding names_opening name_count
summary_opening line lent = names_opening (name_count line) line lent

-- the bytes that such a store takes: 4,096 + 4,616 + 128 · 48 + 24 · 256 + 2 · 512
abbrev pub summary_bytes : ℕ
summary_bytes = 22024

-- the sheet of what is held when all texts are fed to lane 0 and it is closed
unfoldable pub closed_sheet : Batched → List (List ℕ)
unfolding sheet_lines closing refused_after refused_in
closed_sheet b = sheet_lines (closing b.after 0).after (refused_after (refused_in b.verdicts) (closing b.after 0).answer)

unfoldable pub summary_lines : Opening → List ℕ → List (List ℕ)
unfolding closed_sheet batching texts_in opened
summary_lines o texts = closed_sheet (batching (texts_in false texts) (opened o) 0 texts)

-- "A bad first line gives only `names refused` and the number"
unfoldable pub printed_lines : Answer Opening → List ℕ → List (List ℕ)
unfolding refusal_line summary_lines
printed_lines (refused k) texts = refusal_line k ∷ []
printed_lines (gives o) texts = summary_lines o texts

-- "reads names from the first line of standard input and trees after it"
unfoldable pub lines_for : List ℕ → List (List ℕ)
unfolding printed_lines summary_opening first_line behind_line
lines_for input = printed_lines (summary_opening (first_line input) summary_bytes) (behind_line input)

unfoldable pub summary : List ℕ → List ℕ
unfolding lines_for bytes_of
summary input = bytes_of (lines_for input)

-- ---- samples: the sheet of document 01, and our own

pub sheet-of-the-document :
    summary (bytes "A B C D E\n((A,B),C,(D,E));\n((A,B),D,(C,E));\n((D,E),(C,(A,B)));\n")
    ≡ bytes "taxa 5 trees 3 refused 0 splits 3\n20 1\n24 2\n28 3\n0 2 0\n2 0 2\n0 2 0\nmajority (A,B,(C,(D,E)));\nstrict (A,B,(C,D,E));\n"
unfolding summary
sheet-of-the-document = refl

pub sheet-of-no-trees : summary (bytes "A B C D\n \n") ≡ bytes "taxa 4 trees 0 refused 0 splits 0\nmajority none\nstrict none\n"
unfolding summary
sheet-of-no-trees = refl

-- spaces of quoted names are not counted, and a semicolon in quotes ends no text
pub sheet-of-quoted-names :
    summary (bytes "'A b' C 'it''s' D_e 'x;y'\n((A_b,C),'it''s',('D e','x;y'));\n(('A b',C),'x;y',('it''s',D_e));\n")
    ≡ bytes "taxa 5 trees 2 refused 0 splits 3\n12 1\n24 1\n28 2\n0 2\n2 0\nmajority (A_b,C,('it''s',D_e,'x;y'));\nstrict (A_b,C,('it''s',D_e,'x;y'));\n"
unfolding summary
sheet-of-quoted-names = refl

-- quotes that do not close hide the other spaces: two names are counted
pub sheet-of-open-quotes : summary (bytes "A 'B C D E\n(A,B,C);") ≡ bytes "names refused 2\n"
unfolding summary
sheet-of-open-quotes = refl

-- no lengths are kept: one that is outside the exact range is no fault
pub sheet-of-lengths : summary (bytes "A B C D\n((A,B):1e23,C,D):2;\n") ≡ bytes "taxa 4 trees 1 refused 0 splits 1\n12 1\n0\nmajority (A,B,(C,D));\nstrict (A,B,(C,D));\n"
unfolding summary
sheet-of-lengths = refl
