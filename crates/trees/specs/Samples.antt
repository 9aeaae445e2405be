-- The samples S1 to S14 of document 01, as one table, and the theorem that the definitions give what it says.
-- Each row shows the sample's text, or masks, and the answer as the document prints it.
--
--   collection ns ts  the collection over the names ns, fed with the texts ts one after another
--   Asked, Said       what a sample asks, and what is said of it
--   said a            what the definitions say
--   table             the samples
use Rattle.std.specs.Prelude.{ℕ, Bool, true, false, List, [], ◌∷◌, map, ◌≡◌, refl, length, replicate}
use Prim.Native.String.{String}
use Rattle.trees.specs.Plain.{bytes, Answer, refused, gives}
use Rattle.trees.specs.Mask.{agree}
use Rattle.trees.specs.Names.{names_in}
use Rattle.trees.specs.Consensus.{majority}
use Rattle.trees.specs.Opening.{Opening}
use Rattle.trees.specs.Held.{Held, Progress, opened, feeding}
use Rattle.trees.specs.Questions.{tree_number, one_sided_of, doubled_of, written_of}

-- an opening over the names: one lane, four trees, eight splits, one place, all constants 0
unfoldable pub over : List (List ℕ) → Opening
over ns =
    record {
      numbers = record { taxa = length ns; lanes = 1; tree_room = 4; split_room = 8; places = 1; kept = 0 };
      names = ns;
      first = replicate (length ns) 0;
      second = replicate (length ns) 0;
    }

unfoldable pub fed_with : Held → List String → Held
unfolding feeding bytes
fed_with h [] = h
fed_with h (t ∷ ts) = fed_with (feeding h 0 (bytes t)).after ts

unfoldable pub collection : String → List String → Held
unfolding fed_with opened over names_in bytes
collection ns ts = fed_with (opened (over (names_in (bytes ns)))) ts

pub data Asked : Type 0 where
  the-splits : String → String → Asked
  the-verdict : String → String → Asked
  the-distances : String → String → String → Asked
  the-agreement : ℕ → ℕ → Asked
  the-majority : String → List String → Asked
  the_written : String → String → Asked

pub data Said : Type 0 where
  has-splits : List ℕ → Said
  is : ℕ → Said
  are-apart : ℕ → ℕ → ℕ → Said
  agrees : Bool → Said
  reads : List ℕ → Said
  nothing : Said

-- an answer, as the document would say it
unfoldable pub splits_or : Answer (List ℕ) → Said
splits_or (refused k) = is k
splits_or (gives ms) = has-splits ms

unfoldable pub is_or : Answer Progress → Said
is_or (refused k) = is k
is_or (gives p) = nothing

unfoldable pub reads_or : Answer (List ℕ) → Said
reads_or (refused k) = is k
reads_or (gives s) = reads s

unfoldable pub distances_or : Answer ℕ → Answer ℕ → Answer ℕ → Said
distances_or (refused k) b c = is k
distances_or (gives a) (refused k) c = is k
distances_or (gives a) (gives b) (refused k) = is k
distances_or (gives a) (gives b) (gives c) = are-apart a b c

unfoldable pub said : Asked → Said
unfolding collection feeding bytes tree_number one_sided_of doubled_of agree majority written_of splits_or is_or reads_or distances_or
said (the-splits ns t) = splits_or (tree_number (collection ns (t ∷ [])) 0 61)
said (the-verdict ns t) = is_or (feeding (collection ns []) 0 (bytes t)).answer
said (the-distances ns t u) = let h = collection ns (t ∷ u ∷ []) in distances_or (one_sided_of h 0 1) (one_sided_of h 1 0) (doubled_of h 0 1)
said (the-agreement a b) = agrees (agree a b)
said (the-majority ns ts) = has-splits (majority (collection ns ts).trees)
said (the_written ns t) = reads_or (written_of (collection ns (t ∷ [])) 0 2236)

pub record Sample : Type 0 where
  pub name : String
  pub asked : Asked
  pub says : Said

abbrev AtoE : String
AtoE = "A B C D E"

abbrev AtoD : String
AtoD = "A B C D"

abbrev T0 : String
T0 = "((A,B),C,(D,E));"

abbrev T1 : String
T1 = "((A,B),D,(C,E));"

abbrev T2 : String
T2 = "((D,E),(C,(A,B)));"

unfoldable pub table : List Sample
unfolding bytes
table =
    record { name = "S1"; asked = the-splits AtoE T0; says = has-splits (24 ∷ 28 ∷ []) }
    ∷ record { name = "S2"; asked = the-splits AtoE T1; says = has-splits (20 ∷ 28 ∷ []) }
    ∷ record { name = "S3"; asked = the-splits AtoE T2; says = has-splits (24 ∷ 28 ∷ []) }
    ∷ record { name = "S4"; asked = the-distances AtoE T0 T1; says = are-apart 1 1 2 }
    ∷ record { name = "S5"; asked = the-splits AtoE "((A,B),C,D,E);"; says = has-splits (28 ∷ []) }
    ∷ record { name = "S5"; asked = the-distances AtoE "((A,B),C,D,E);" T0; says = are-apart 0 1 1 }
    ∷ record { name = "S6"; asked = the-agreement 20 24; says = agrees false }
    ∷ record { name = "S7"; asked = the-agreement 24 28; says = agrees true }
    ∷ record { name = "S8"; asked = the-majority AtoE (T0 ∷ T1 ∷ T2 ∷ []); says = has-splits (24 ∷ 28 ∷ []) }
    ∷ record { name = "S9"; asked = the-majority AtoE (T0 ∷ T1 ∷ []); says = has-splits (28 ∷ []) }
    ∷ record { name = "S10"; asked = the-verdict AtoE "((A),B,C,D,E);"; says = is 7 }
    ∷ record { name = "S11"; asked = the-verdict AtoE "(A,A,C,D,F);"; says = is 9 }
    ∷ record { name = "S12"; asked = the-verdict AtoE "(A,B,C,D);"; says = is 10 }
    ∷ record { name = "S13"; asked = the-splits AtoD "((A,B),(C,D));"; says = has-splits (12 ∷ []) }
    ∷ record { name = "S14"; asked = the-splits AtoD "(A,(B,C,D));"; says = has-splits [] }
    ∷ record { name = "S14"; asked = the_written AtoD "(A,(B,C,D));"; says = reads (bytes "(A,B,C,D);") }
    ∷ []

pub samples-hold : map (λ s. said s.asked) table ≡ map (λ s. s.says) table
unfolding said table
samples-hold = refl
