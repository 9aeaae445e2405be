-- Further samples, of our own: matrices in PHYLIP's layout.
--
--   matrices-written     what is written of no tree, of one, of two and of a tenth and an eleventh
--   rows-read            values of a line, and each kind of line that is none
--   matrices-read        texts that are matrices, and each kind of text that is not
--   matrices-answered    the refusals of reading and writing, in their order
use Rattle.std.specs.Prelude.{ℕ, List, [], ◌∷◌, map, ◌≡◌, refl}
use Rattle.std.proofs.Math.Option.{Option, none, some}
use Rattle.trees.specs.Plain.{bytes, refused, gives}
use Rattle.trees.specs.Decimal.{number_in}
use Rattle.trees.specs.Phylip.{row_text, square_text, most_trees, values_in, row_in, Square, square_in}
use Rattle.trees.specs.PhylipCall.{phylip_text, phylip_of, read_phylip_of}
use Rattle.trees.specs.FurtherWithdrawals.{holding_trees}

-- ---- writing

pub matrices-written :
    (phylip_text [] ≡ bytes "0\n")
    × (phylip_text ([] ∷ []) ≡ bytes "1\nt0         0\n")
    × (phylip_text ((24 ∷ 28 ∷ []) ∷ (20 ∷ []) ∷ []) ≡ bytes "2\nt0         0 3\nt1         3 0\n")
    × (row_text 9 (10 ∷ 0 ∷ 122 ∷ []) ≡ bytes "t9         10 0 122\n")
    × (row_text 1023 (0 ∷ []) ≡ bytes "t1023      0\n")
    × (row_text 123456789 (65535 ∷ []) ≡ bytes "t123456789 65535\n")
unfolding phylip_text row_text bytes
matrices-written = (refl, refl, refl, refl, refl, refl)

-- ---- a line

unfoldable pub rows : List (List ℕ × Option (List ℕ))
rows =
    (bytes " 0", some (0 ∷ []))
    ∷ (bytes " 7 12   0", some (7 ∷ 12 ∷ 0 ∷ []))
    ∷ (bytes "    65535 0065535", some (65535 ∷ 65535 ∷ []))
    ∷ ([], none)
    ∷ (bytes " ", none)
    ∷ (bytes "7", none)
    ∷ (bytes " 7 ", none)
    ∷ (bytes " 65536", none)
    ∷ (bytes " -1", none)
    ∷ (bytes " 1.0", none)
    ∷ (bytes " 1\t2", none)
    ∷ (bytes " 1\r", none)
    ∷ (bytes " 1 x 2", none)
    ∷ []

pub rows-read :
    (map (λ x. values_in x.0) rows ≡ map (λ x. x.1) rows)
    × (row_in 2 (bytes "a name  12 3 4") ≡ some (3 ∷ 4 ∷ []))
    × (row_in 2 (bytes " ~ 1 2 3 4 3 4") ≡ some (3 ∷ 4 ∷ []))
    × (row_in 2 (bytes "nine byte 3 4") ≡ none)
    × (row_in 2 (bytes "ten bytes! 3") ≡ none)
    × (row_in 2 (bytes "ten bytes! 3 4 5") ≡ none)
    × (row_in 1 (bytes "ten\tbytes! 3") ≡ none)
    × (row_in 1 (127 ∷ bytes "en bytes! 3") ≡ none)
    × (row_in 1 (bytes "short") ≡ none)
unfolding rows values_in row_in bytes
rows-read = (refl, refl, refl, refl, refl, refl, refl, refl, refl)

-- ---- a text

abbrev q : ℕ → List ℕ → Option Square
q t vs = some (record { trees = t; values = vs })

unfoldable pub texts : List (List ℕ × Option Square)
texts =
    (bytes "0\n", q 0 [])
    ∷ (bytes "000\n", q 0 [])
    ∷ (bytes "1\nabcdefghij 5\n", q 1 (5 ∷ []))
    ∷ (bytes "02\nabcdefghij 0 1\n          12 3\n", none)
    ∷ (bytes "02\nabcdefghij 0 1\n           2  3\n", q 2 (0 ∷ 1 ∷ 2 ∷ 3 ∷ []))
    ∷ ([], none)
    ∷ (bytes "0", none)
    ∷ (bytes "\n", none)
    ∷ (bytes " 0\n", none)
    ∷ (bytes "0 \n", none)
    ∷ (bytes "0\r\n", none)
    ∷ (bytes "0\n\n", none)
    ∷ (bytes "0\n ", none)
    ∷ (bytes "1025\n", none)
    ∷ (bytes "1\n", none)
    ∷ (bytes "1\nabcdefghij 5", none)
    ∷ (bytes "1\nabcdefghij 5\n\n", none)
    ∷ (bytes "1\nabcdefghij\n 5\n", none)
    ∷ (bytes "2\nabcdefghij 0 1\n", none)
    ∷ (bytes "1\nabcdefghij 0\nabcdefghij 0\n", none)
    ∷ (bytes "x\nabcdefghij 0\n", none)
    ∷ []

pub matrices-read :
    (map (λ x. square_in x.0) texts ≡ map (λ x. x.1) texts)
    × (square_in (square_text ((0 ∷ 3 ∷ []) ∷ (3 ∷ 0 ∷ []) ∷ [])) ≡ q 2 (0 ∷ 3 ∷ 3 ∷ 0 ∷ []))
    × (number_in most_trees (bytes "1024") ≡ some 1024)
    × (number_in most_trees (bytes "1025") ≡ none)
unfolding texts square_in square_text number_in bytes
matrices-read = (refl, refl, refl, refl)

-- ---- refusals

pub matrices-answered :
    (phylip_of (holding_trees ((28 ∷ []) ∷ []) ([] ∷ [])) 15 ≡ gives (bytes "1\nt0         0\n"))
    × (phylip_of (holding_trees ((28 ∷ []) ∷ []) ([] ∷ [])) 14 ≡ refused 4)
    × (read_phylip_of (bytes "2\nabcdefghij 0 7\nabcdefghij 7 0\n") 4 ≡ gives (record { trees = 2; values = 0 ∷ 7 ∷ 7 ∷ 0 ∷ [] }))
    × (read_phylip_of (bytes "2\nabcdefghij 0 7\nabcdefghij 7 0\n") 3 ≡ refused 4)
    × (read_phylip_of (bytes "2\nabcdefghij 0 7\nabcdefghij 8 0\n") 3 ≡ refused 25)
    × (read_phylip_of (bytes "2\nabcdefghij 0 7\nabcdefghij 7 1\n") 4 ≡ refused 25)
    × (read_phylip_of (bytes "2\nabcdefghij 1 7\nabcdefghij 8 0\nx") 0 ≡ refused 24)
    × (read_phylip_of (bytes "3\nabcdefghij 0 1 2\nabcdefghij 1 0 3\nabcdefghij 4 3 0\n") 9 ≡ refused 25)
    × (read_phylip_of (bytes "0\n") 0 ≡ gives (record { trees = 0; values = [] }))
unfolding phylip_of read_phylip_of bytes
matrices-answered = (refl, refl, refl, refl, refl, refl, refl, refl, refl)
