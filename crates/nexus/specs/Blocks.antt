-- What a file is, as the code answers it, from a place on.
--
--   OtherEnd f i r       another block goes on from i and ends before r; r is none where it never ends
--   NextAs f i r         what stands behind the other blocks from i on
--   Listed, ListedAs f i ps r     the TRANSLATE list that may stand at i, or none; the places of its pairs are ps
--   with_texts ts x       the file x with the texts ts before its own
--   Counted, CountedAs f i r      the lines of the TREES block from i on, or none
--   EndsAs f i r         r says whether other blocks and blanks alone stand from i on
--   TreesAs f i ps r     the TREES block from its first command, at i, on, and what stands behind it
--   FileAs f ps r        the whole file; r is none where it is malformed
use Rattle.std.specs.Prelude.{ℕ, ◌≤◌, ◌<◌, ◌≡◌, Bool, true, false, List, [], ◌∷◌, length, if◌then◌else◌}
use Rattle.std.specs.Prelude.{Option as CodeOption, None, Some}
use Rattle.std.proofs.Math.Option.{Option, none, some}
use Rattle.trees.specs.Nexus.{File}
use Rattle.trees.specs.NexusReading.{outside, in_other, in_trees, with_pairs, with_text, closes, reads, read_file}
use Rattle.nexus.specs.declared.blocks.Next.{Next}
use Rattle.nexus.specs.declared.blocks.Next.TheVariants.{Trees, Last, Wrong}
use Rattle.nexus.specs.declared.blocks.Listing.{Listing}
use Rattle.nexus.specs.declared.blocks.Lines.{Lines}
use Rattle.nexus.specs.declared.blocks.Blocks.{Blocks}
use Rattle.nexus.specs.Places.{part, plain_at, commands_at}
use Rattle.nexus.specs.Commands.{pairs_in, Placed}

unfoldable pub OtherEnd : List ℕ → ℕ → CodeOption ℕ → Type 0
OtherEnd f i (Some r) = (i < r) × (r ≤ length f) × ((came : Bool) → reads (in_other came) (commands_at f i) ≡ reads (outside came) (commands_at f r))
OtherEnd f i None = (came : Bool) → reads (in_other came) (commands_at f i) ≡ none

unfoldable pub NextAs : List ℕ → ℕ → Next → Type 0
NextAs f i (Trees r) =
    (r ≤ length f) × ((came : Bool) → reads (outside came) (commands_at f i) ≡ (if came then none else reads (in_trees true) (commands_at f r)))
NextAs f i (Last r) = (r ≤ length f) × ((came : Bool) → reads (outside came) (commands_at f i) ≡ closes (outside came) (plain_at f r))
NextAs f i Wrong = (came : Bool) → reads (outside came) (commands_at f i) ≡ none

pub record Listed (f : List ℕ) (i : ℕ) (ps : List ℕ) (r : Listing) : Type 0 where
  pub order : r.from ≤ r.end
  pub within : r.end ≤ length f
  pub there : r.at ≤ length f
  pub placed : Placed (part r.from r.end f) r.pairs ps
  pub lists : reads (in_trees true) (commands_at f i) ≡ with_pairs (pairs_in (part r.from r.end f) r.pairs ps) (reads (in_trees false) (commands_at f r.at))

unfoldable pub ListedAs : List ℕ → ℕ → List ℕ → CodeOption Listing → Type 0
ListedAs f i ps (Some r) = Listed f i ps r
ListedAs f i ps None = reads (in_trees true) (commands_at f i) ≡ none

unfoldable pub with_texts : List (List ℕ) → Option File → Option File
unfolding with_text
with_texts [] x = x
with_texts (t ∷ ts) x = with_text t (with_texts ts x)

pub record Counted (f : List ℕ) (i : ℕ) (r : Lines) : Type 0 where
  pub there : r.at ≤ length f
  pub texts : List (List ℕ)
  pub count : length texts ≡ r.trees
  pub brings : reads (in_trees false) (commands_at f i) ≡ with_texts texts (reads (outside true) (commands_at f r.at))

unfoldable pub CountedAs : List ℕ → ℕ → CodeOption Lines → Type 0
CountedAs f i (Some r) = Counted f i r
CountedAs f i None = reads (in_trees false) (commands_at f i) ≡ none

pub record EndsAs (f : List ℕ) (i : ℕ) (r : Bool) : Type 0 where
  pub well : r ≡ true → reads (outside true) (commands_at f i) ≡ some (record { pairs = []; texts = [] })
  pub not : r ≡ false → reads (outside true) (commands_at f i) ≡ none

-- the file that is read gives these pairs and texts, and its trees' lines begin where the answer says
pub record Found (f : List ℕ) (r : Blocks) (ps : List ℕ) (x : File) : Type 0 where
  pub order : r.from ≤ r.end
  pub within : r.end ≤ length f
  pub there : r.lines ≤ length f
  pub placed : Placed (part r.from r.end f) r.pairs ps
  pub pairs : x.pairs ≡ pairs_in (part r.from r.end f) r.pairs ps
  pub trees : length x.texts ≡ r.trees
  pub lines : reads (in_trees false) (commands_at f r.lines) ≡ some (record { pairs = []; texts = x.texts })

unfoldable pub TreesAs : List ℕ → ℕ → List ℕ → CodeOption Blocks → Type 0
TreesAs f i ps (Some r) = (x : File) × (reads (in_trees true) (commands_at f i) ≡ some x) × Found f r ps x
TreesAs f i ps None = reads (in_trees true) (commands_at f i) ≡ none

unfoldable pub FileAs : List ℕ → List ℕ → CodeOption Blocks → Type 0
FileAs f ps (Some r) = (x : File) × (read_file f ≡ some x) × Found f r ps x
FileAs f ps None = read_file f ≡ none
