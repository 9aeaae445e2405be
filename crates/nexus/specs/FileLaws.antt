-- Laws of the TREES block and of the whole file. Assumes nothing.
--
--   trees-bad, file-bad     an answer that the TREES block, or the file, is malformed
--   trees-no-list, trees-no-lines, trees-no-end, trees-found     the TREES block: its list, its lines, or what stands behind it is wrong, or nothing
--   file-begins, file-reads     the first token is #NEXUS, and what is read behind it
--   file-none, file-wrong, file-ends, file-trees     it is not; then comes a wrong command, no TREES block, or one
--   listed-there, counted-there     the places behind the list and behind the lines stand in the file
--   malformed, file-found     what an answer says of the file
use Rattle.std.specs.Prelude.{ℕ, ◌≤◌, ◌≡◌, Bool, true, length}
use Rattle.std.proofs.Math.Path.{refl, ap}
use Rattle.std.proofs.Common.{◌∙◌}
use Rattle.std.proofs.Math.Bool.{false}
use mathlib.Core.List.{List, [], ◌∷◌, ◌++◌, map, append-nil}
use Rattle.std.specs.Prelude.{Option as CodeOption, None, Some}
use Rattle.std.proofs.Math.Option.{none, some}
use Rattle.trees.specs.Plain.{same_bytes, bytes}
use Rattle.trees.specs.Text.{semicolon, parts}
use Rattle.trees.specs.Nexus.{uncommented, capital, is_word, Pair, File}
use Rattle.trees.specs.NexusReading.{first_token, outside, in_trees, with_pairs, closes, reads, read_file}
use Rattle.theorems.specs.ListLaws.{if-true, if-false}
use Rattle.nexus.specs.declared.blocks.Next.TheVariants.{Trees, Last, Wrong}
use Rattle.nexus.specs.declared.blocks.Listing.{Listing}
use Rattle.nexus.specs.declared.blocks.Lines.{Lines}
use Rattle.nexus.specs.declared.blocks.Blocks.{Blocks}
use Rattle.nexus.specs.declared.tokens.Token.{Token}
use Rattle.nexus.specs.Places.{part, commands_at, TokenAt}
use Rattle.nexus.specs.Commands.{pairs_in}
use Rattle.nexus.specs.Blocks.{NextAs, ListedAs, with_texts, CountedAs, Found, TreesAs, FileAs}
use Rattle.nexus.specs.BlockLaws.{nothing}
use Rattle.nexus.specs.CountLaws.{texts-none, texts-all}

-- ---- an answer that the file is malformed

module _ (f ps : List ℕ) where
  pub trees-bad : (i : ℕ) → reads (in_trees true) (commands_at f i) ≡ none → TreesAs f i ps None
  unfolding TreesAs
  trees-bad i e = e

  pub file-bad : read_file f ≡ none → FileAs f ps None
  unfolding FileAs
  file-bad e = e

-- ---- the TREES block

module _ (ps : List Pair) where
  pairs-none : with_pairs ps none ≡ none
  unfolding with_pairs
  pairs-none = refl

module _ (f : List ℕ) (i : ℕ) (ps : List ℕ) where
  pub trees-no-list : ListedAs f i ps None → TreesAs f i ps None
  unfolding ListedAs TreesAs
  trees-no-list o = o

  module _ (l : Listing) (o : ListedAs f i ps (Some l)) where
    abbrev listed_pairs : List Pair
    listed_pairs = pairs_in (part l.from l.end f) l.pairs ps

    pub listed-there : l.at ≤ length f
    unfolding ListedAs
    listed-there = o.there

    pub trees-no-lines : CountedAs f l.at None → TreesAs f i ps None
    unfolding ListedAs CountedAs TreesAs
    trees-no-lines m = o.lists ∙ ap (with_pairs listed_pairs) m ∙ pairs-none listed_pairs

    module _ (n : Lines) (m : CountedAs f l.at (Some n)) where
      pub counted-there : n.at ≤ length f
      unfolding CountedAs
      counted-there = m.there

      pub trees-no-end : reads (outside true) (commands_at f n.at) ≡ none → TreesAs f i ps None
      unfolding ListedAs CountedAs TreesAs
      trees-no-end e = o.lists ∙ ap (with_pairs listed_pairs) (m.brings ∙ ap (with_texts m.texts) e ∙ texts-none m.texts) ∙ pairs-none listed_pairs

      pub trees-found : reads (outside true) (commands_at f n.at) ≡ some nothing
          → TreesAs f i ps (Some (record { from = l.from; end = l.end; pairs = l.pairs; lines = l.at; trees = n.trees }))
      unfolding ListedAs CountedAs TreesAs with_pairs
      trees-found e =
          let y = m.brings ∙ ap (with_texts m.texts) e ∙ texts-all m.texts in (
            record { pairs = listed_pairs ++ []; texts = m.texts },
            o.lists ∙ ap (with_pairs listed_pairs) y,
            record { order = o.order; within = o.within; there = o.there; placed = o.placed; pairs = append-nil listed_pairs; trees = m.count; lines = y },
          )

-- ---- the whole file

module _ (f : List ℕ) (t : Token) (w : TokenAt f 0 t) where
  -- the bytes of #NEXUS
  abbrev is_nexus : Bool
  is_nexus = same_bytes (map capital (part t.from t.end f)) (35 ∷ 78 ∷ 69 ∷ 88 ∷ 85 ∷ 83 ∷ [])

  file-begins : is_word "#NEXUS" (first_token (uncommented false f)) ≡ is_nexus
  unfolding is_word bytes
  file-begins = ap (λ (x : List ℕ). same_bytes (map capital x) (35 ∷ 78 ∷ 69 ∷ 88 ∷ 85 ∷ 83 ∷ [])) w.token

  pub file-none : is_nexus ≡ false → (ps : List ℕ) → FileAs f ps None
  unfolding read_file FileAs
  file-none e ps = if-false _ _ (file-begins ∙ e)

  file-reads : is_nexus ≡ true → read_file f ≡ reads (outside false) (commands_at f t.end)
  unfolding read_file
  file-reads e = if-true _ _ (file-begins ∙ e) ∙ ap (λ (x : List ℕ). reads (outside false) (parts semicolon false x)) w.behind

  module _ (e : is_nexus ≡ true) where
    pub file-wrong : NextAs f t.end Wrong → (ps : List ℕ) → FileAs f ps None
    unfolding NextAs FileAs
    file-wrong n ps = file-reads e ∙ n false

    pub file-ends : (k : ℕ) → NextAs f t.end (Last k) → (ps : List ℕ) → FileAs f ps None
    unfolding NextAs FileAs closes
    file-ends k n ps = file-reads e ∙ n.1 false

    pub file-trees : (k : ℕ) → NextAs f t.end (Trees k) → (r : CodeOption Blocks) (ps : List ℕ) → TreesAs f k ps r → FileAs f ps r
    unfolding NextAs TreesAs FileAs
    file-trees k n (Some r) ps o = (o.0, file-reads e ∙ n.1 false ∙ o.1, o.2)
    file-trees k n None ps o = file-reads e ∙ n.1 false ∙ o

-- ---- what the answer says

module _ (f ps : List ℕ) where
  pub malformed : FileAs f ps None → read_file f ≡ none
  unfolding FileAs
  malformed o = o

  pub file-found : (r : Blocks) → FileAs f ps (Some r) → (x : File) × (read_file f ≡ some x) × Found f r ps x
  unfolding FileAs
  file-found r o = o
