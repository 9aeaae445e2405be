-- A plain NEXUS file around texts.
--
--   tree_lines ts      a line for each of the texts ts, which end with their semicolons, and the block's end
--   file_around ts     the file: `#NEXUS`, the TREES block, and nothing else
--   accepting h ss    the verdicts on trees with the splits ss and no lengths, one after another, and what is held afterwards: accepted where
--                     there is room
use Rattle.std.specs.Prelude.{ℕ, List, [], ◌∷◌, ◌++◌}
use Rattle.trees.specs.Plain.{bytes, byte}
use Rattle.trees.specs.Held.{Held, room_for, finished, recording}
use Rattle.trees.specs.Batch.{verdict_number, Batched, with_verdict}
use Rattle.theorems.specs.Absent.{without_lengths}

unfoldable pub tree_lines : List (List ℕ) → List ℕ
unfolding bytes
tree_lines [] = bytes "END;\n"
tree_lines (t ∷ ts) = bytes "TREE t = " ++ (t ++ (byte "\n" ∷ tree_lines ts))

unfoldable pub file_around : List (List ℕ) → List ℕ
unfolding bytes tree_lines
file_around ts = bytes "#NEXUS\nBEGIN TREES;\n" ++ tree_lines ts

unfoldable pub accepting : Held → List (List ℕ) → Batched
unfolding room_for finished recording verdict_number with_verdict without_lengths
accepting h [] = record { verdicts = []; after = h }
accepting h (s ∷ ss) =
    let v = room_for h (without_lengths h.opening.numbers.kept s) in
    with_verdict (verdict_number (finished h v)) (accepting (recording h v) ss)
