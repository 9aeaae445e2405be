-- A release sheet goes by the taxa, the names and the trees of a collection alone. Assumes nothing.
--
--   release-alike     collections that are alike in these give the same sheet
use Rattle.std.specs.Prelude.{ℕ, ◌≡◌, Bool, List, [], ◌++◌, if◌then◌else◌, Option, None, Some}
use Rattle.std.proofs.Math.Path.{refl}
use Rattle.std.proofs.Math.Bool.{true, false}
use Rattle.std.proofs.Math.Dec.{ltb}
use Rattle.trees.specs.Plain.{refused}
use Rattle.trees.specs.Questions.{if_room}
use Rattle.trees.specs.Held.{Held}
use Rattle.putting.specs.Lines.{bytes_of}
use Rattle.sheet.specs.Sheet.{counts_line, split_line, tree_text, tree_line, majority_line, strict_line}
use Rattle.grouping.specs.GroupLines.{group_line, group_lines, stand_in_line, stand_in_lines}
use Rattle.drawing.specs.DrawnLines.{drawn_lines}
use Rattle.release.specs.declared.Wanted.{Wanted}
use Rattle.release.specs.Release.{newick_lines, first_lines, split_lines, apart_lines, release_lines, is_taxon, release_of}
use Rattle.answers.specs.declared.Taxon.{Taxon}

-- a collection with so many taxa, these names and these trees, and nothing else

abbrev bare : ℕ → List (List ℕ) → List (List ℕ) → Held
bare taxa ns ts =
    record {
      opening = record { numbers = record { taxa = taxa; lanes = 0; tree_room = 0; split_room = 0; places = 0; kept = 0 }; names = ns; first = []; second = [] };
      trees = ts;
      lengths = [];
      texts = [];
    }

module _ (h k : Held) (e : h.opening.numbers.taxa ≡ k.opening.numbers.taxa) (f : h.opening.names ≡ k.opening.names) (g : h.trees ≡ k.trees) where
  same : bare h.opening.numbers.taxa h.opening.names h.trees ≡ bare k.opening.numbers.taxa k.opening.names k.trees
  same = λ z. bare (e z) (f z) (g z)

  taxon-alike : (a : Option Taxon) → is_taxon h a ≡ is_taxon k a
  unfolding is_taxon
  taxon-alike None = refl
  taxon-alike (Some i) = λ z. ltb i.0 (e z)

  newick-alike : newick_lines h ≡ newick_lines k
  unfolding newick_lines
  newick-alike = λ z. newick_lines (same z)

  first_alike : (n : ℕ) → first_lines h n ≡ first_lines k n
  unfolding first_lines counts_line tree_text tree_line majority_line strict_line group_line group_lines drawn_lines
  first_alike n = λ z. first_lines (same z) n

  splits-alike : (wanted : Bool) → split_lines h wanted ≡ split_lines k wanted
  unfolding split_lines split_line
  splits-alike true = λ z. split_lines (same z) true
  splits-alike false = refl

  apart-alike : (a : Option Taxon) → apart_lines h a ≡ apart_lines k a
  unfolding apart_lines stand_in_line stand_in_lines
  apart-alike None = refl
  apart-alike (Some i) = λ z. stand_in_lines (same z) i.0

  pub release-alike : (n : ℕ) (w : Wanted) (room : ℕ) → release_of h n w room ≡ release_of k n w room
  unfolding release_of release_lines
  release-alike n w room = λ z.
      if taxon-alike w.apart z then
      if_room room (bytes_of (if w.newick then newick-alike z else first_alike n z ++ (splits-alike w.splits z ++ apart-alike w.apart z)))
      else
      refused 13
