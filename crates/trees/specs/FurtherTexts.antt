-- Further samples, of our own: the rules of document 01 and of request 2026-02 about texts, splits and trees that S1 to S14 do not reach, each on a small text.
--
--   texts        texts and masks, in the form of the samples' table
--   blanks-are, label-bytes-are, quoted-bytes-are     every blank, every label byte, and every byte that may stand in quotes
--   lengths      tokens that are lengths, and tokens that are not
--   nestings     63 brackets open at once, and 64
--   masks-hold   sets of taxa, as masks
--   propers      masks that are splits of so many taxa, and masks that are not
--   good_trees    splits that are in order as those of a tree, and splits that are not
use Rattle.std.specs.Prelude.{ℕ, zero, suc, ◌+◌, ◌^◌, Bool, true, false, List, [], ◌∷◌, ◌++◌, map, ◌≡◌, refl}
use Prim.Native.String.{String}
use Rattle.std.proofs.Math.Option.{Option, none, some}
use Rattle.trees.specs.Plain.{keep, bytes}
use Rattle.trees.specs.Mask.{has, ones_below, every_taxon, without, apart, within, side, proper, lowest}
use Rattle.trees.specs.Text.{is_blank, is_label_byte, is_quoted_byte}
use Rattle.trees.specs.Length.{is_length}
use Rattle.trees.specs.Tree.{Nodes, nesting}
use Rattle.trees.specs.Reading.{reading}
use Rattle.trees.specs.Written.{widest}
use Rattle.trees.specs.Whole.{good_tree}
use Rattle.trees.specs.Samples.{Sample, said, has-splits, is, agrees, reads, the-splits, the-verdict, the-agreement, the_written}

abbrev AtoE : String
AtoE = "A B C D E"

abbrev AtoF : String
AtoF = "A B C D E F"

abbrev taxa64 : String
taxa64 = "A B C D E F G H I J K L M N O P Q R S T U V W X Y Z a b c d e f g h i j k l m n o p q r s t u v w x y z 0 1 2 3 4 5 6 7 8 9 + -"

abbrev tree64 : String
tree64 = "(A,B,C,D,E,F,G,H,I,J,K,L,M,N,O,P,Q,R,S,T,U,V,W,X,Y,Z,a,b,c,d,e,f,g,h,i,j,k,l,m,n,o,p,q,r,s,t,u,v,w,x,y,z,0,1,2,3,4,5,6,7,8,9,(+,-));"

unfoldable pub texts : List Sample
unfolding bytes
texts =
    record { name = "blanks, lengths and inner labels"; asked = the-splits AtoE " ( (A:-1.5e+3 ,B:.5)x:1. , C , \t (D,E)\r\n:7)y:1e0 ;"; says = has-splits (24 ∷ 28 ∷ []) }
    ∷ record { name = "label bytes at the ends"; asked = the-splits "! ~ C D" "((!,~),C,D);"; says = has-splits (12 ∷ []) }
    ∷ record { name = "an underscore is a blank"; asked = the-splits "A_B A-B C D" "(('A B',C),A-B,D);"; says = has-splits (10 ∷ []) }
    ∷ record { name = "and a label in quotes is taken as it is"; asked = the-splits "A_B 'A_B' C D" "(('A_B',C),A_B,D);"; says = has-splits (6 ∷ []) }
    ∷ record { name = "L._lactis_12 and 'L. lactis 12'"; asked = the-splits "'L. lactis 12' B C D" "((L._lactis_12,B),C,D);"; says = has-splits (12 ∷ []) }
    ∷ record { name = "an underscore alone is a blank, and a name"; asked = the-splits "_ B C D" "((' ',B),C,D);"; says = has-splits (12 ∷ []) }
    ∷ record { name = "two quotes mean one"; asked = the-splits "'it''s' '''' C D" "(('it''s',C),'''',D);"; says = has-splits (10 ∷ []) }
    ∷ record { name = "marks and a semicolon in quotes"; asked = the-splits "'(a,b);' '[c:d]' C D" "(('(a,b);',C),'[c:d]',D);"; says = has-splits (10 ∷ []) }
    ∷ record { name = "a quoted label alike but for a quote"; asked = the-verdict "'A''' B C D" "(A,B,C,D);"; says = is 8 }
    ∷ record { name = "an unquoted label is no name with an underscore"; asked = the-verdict "'A_B' B C D" "(A_B,B,C,D);"; says = is 8 }
    ∷ record { name = "a quoted inner label, and blanks around quotes"; asked = the-splits AtoE "(( 'A' ,B)'x (y)':1,C,D,E)'z';"; says = has-splits (28 ∷ []) }
    ∷ record { name = "an empty quoted label"; asked = the-verdict AtoE "(A,B,C,D,'');"; says = is 7 }
    ∷ record { name = "an empty quoted inner label"; asked = the-verdict AtoE "((A,B)'',C,D,E);"; says = is 7 }
    ∷ record { name = "a label behind a quoted one"; asked = the-verdict AtoE "('A'B,C,D,E);"; says = is 7 }
    ∷ record { name = "a quoted label behind another"; asked = the-verdict AtoE "(A'B',C,D,E);"; says = is 7 }
    ∷ record { name = "two quoted labels"; asked = the-verdict AtoE "('A' 'B',C,D,E);"; says = is 7 }
    ∷ record { name = "a quoted length"; asked = the-verdict AtoE "(A:'1',B,C,D,E);"; says = is 7 }
    ∷ record { name = "a quote at a length"; asked = the-verdict AtoE "(A:1'1',B,C,D,E);"; says = is 7 }
    ∷ record { name = "a tab in quotes"; asked = the-verdict AtoE "('A\t',B,C,D,E);"; says = is 7 }
    ∷ record { name = "names that begin alike"; asked = the-splits "AB A ABC B" "((A,AB),ABC,B);"; says = has-splits (12 ∷ []) }
    ∷ record { name = "nested splits"; asked = the-splits AtoF "(A,(B,(C,(D,(E,F)))));"; says = has-splits (48 ∷ 56 ∷ 60 ∷ []) }
    ∷ record { name = "splits side by side"; asked = the-splits AtoF "(((F,E),D),((C,B),A));"; says = has-splits (6 ∷ 48 ∷ 56 ∷ []) }
    ∷ record { name = "64 taxa"; asked = the-splits taxa64 tree64; says = has-splits ((2 ^ 63 + 2 ^ 62) ∷ []) }
    ∷ record { name = "an unknown leaf before one that came before"; asked = the-verdict AtoE "(F,A,A,C,D);"; says = is 8 }
    ∷ record { name = "leaves from left to right, through the brackets"; asked = the-verdict AtoE "((A,A),F,C,D);"; says = is 9 }
    ∷ record { name = "a fault of form behind an unknown leaf"; asked = the-verdict AtoE "(F,A,A,C,D;"; says = is 7 }
    ∷ record { name = "nothing"; asked = the-verdict AtoE " ;"; says = is 7 }
    ∷ record { name = "a leaf alone"; asked = the-verdict AtoE "A;"; says = is 10 }
    ∷ record { name = "a bad length"; asked = the-verdict AtoE "(A,B,C,D,E:1.2.3);"; says = is 7 }
    ∷ record { name = "a colon without a length"; asked = the-verdict AtoE "(A,B,C,D,E:);"; says = is 7 }
    ∷ record { name = "a length before a label"; asked = the-verdict AtoE "(A,B,C,D,E):1x;"; says = is 7 }
    ∷ record { name = "two labels in a row"; asked = the-verdict AtoE "(A,B,C,D,E)x y;"; says = is 7 }
    ∷ record { name = "a label before a bracket"; asked = the-verdict AtoE "x(A,B,C,D,E);"; says = is 7 }
    ∷ record { name = "a comma too many"; asked = the-verdict AtoE "(A,B,C,D,E,);"; says = is 7 }
    ∷ record { name = "a bracket too many"; asked = the-verdict AtoE "(A,B,C,D,E));"; says = is 7 }
    ∷ record { name = "a quoted label"; asked = the-splits AtoE "((A,B),C,D,'E');"; says = has-splits (28 ∷ []) }
    ∷ record { name = "two texts in one"; asked = the-verdict AtoE "(A,B,C,D,E),A;"; says = is 7 }
    ∷ record { name = "a leaf of 33 bytes"; asked = the-verdict AtoE "(A,B,C,D,abcdefghijabcdefghijabcdefghijabc);"; says = is 8 }
    ∷ record { name = "an inner label of 33 bytes"; asked = the-splits AtoE "((A,B)abcdefghijabcdefghijabcdefghijabc,C,D,E);"; says = has-splits (28 ∷ []) }
    ∷ record { name = "no common bit"; asked = the-agreement 6 24; says = agrees true }
    ∷ record { name = "the second within the first"; asked = the-agreement 28 24; says = agrees true }
    ∷ record { name = "nested splits, written"; asked = the_written AtoF "(A,(B,(C,(D,(E,F)))));"; says = reads (bytes "(A,B,(C,(D,(E,F))));") }
    ∷ record { name = "splits side by side, written"; asked = the_written AtoF "(((F,E),D),((C,B),A));"; says = reads (bytes "(A,(B,C),(D,(E,F)));") }
    ∷ record { name = "names with blanks, written"; asked = the_written "L._lactis 'B b' C D" "((C,D),'L. lactis',B_b);"; says = reads (bytes "(L._lactis,B_b,(C,D));") }
    ∷ record { name = "names with underscores, marks and quotes, written"; asked = the_written "'a_b' '(c)' 'd''' 'e; f'" "('a_b','(c)','d''','e; f');"; says = reads (bytes "('a_b','(c)','d''','e; f');") }
    ∷ record { name = "64 taxa, written"; asked = the_written taxa64 tree64; says = reads (bytes tree64) }
    ∷ []

pub texts-hold : map (λ s. said s.asked) texts ≡ map (λ s. s.says) texts
unfolding said texts
texts-hold = refl

-- ---- bytes

-- k, k + 1, .. of n numbers
unfoldable pub numbers_from : ℕ → ℕ → List ℕ
numbers_from k zero = []
numbers_from k (suc n) = k ∷ numbers_from (suc k) n

pub blanks-are : keep is_blank (numbers_from 0 256) ≡ bytes "\t\n\r "
unfolding keep is_blank numbers_from bytes
blanks-are = refl

pub label-bytes-are : keep is_label_byte (numbers_from 0 256) ≡ bytes "!\"#$%&*+-./0123456789<=>?@ABCDEFGHIJKLMNOPQRSTUVWXYZ\\^_`abcdefghijklmnopqrstuvwxyz{|}~"
unfolding keep is_label_byte numbers_from bytes
label-bytes-are = refl

pub quoted-bytes-are : keep is_quoted_byte (numbers_from 0 256) ≡ numbers_from 32 95
unfolding keep is_quoted_byte numbers_from
quoted-bytes-are = refl

-- ---- lengths

unfoldable pub lengths : List (String × Bool)
lengths =
    ("5", true) ∷ ("5.", true) ∷ (".5", true) ∷ ("1.5", true) ∷ ("+.5e-3", true) ∷ ("-1E+07", true) ∷ ("00", true) ∷ ("0123456789", true)
    ∷ ("", false) ∷ (".", false) ∷ ("-", false) ∷ ("e5", false) ∷ ("1e", false) ∷ ("1e+", false) ∷ ("1e5e5", false) ∷ ("1.2.3", false) ∷ ("+-1", false)
    ∷ ("1e+-5", false) ∷ ("1e5.0", false) ∷ ("0x1", false) ∷ ("1/2", false) ∷ ("1:2", false) ∷ []

pub lengths-hold : map (λ r. is_length (bytes r.0)) lengths ≡ map (λ r. r.1) lengths
unfolding lengths is_length bytes
lengths-hold = refl

-- ---- nesting

-- a text with k brackets open at once
unfoldable pub nested : ℕ → List ℕ
unfolding bytes
nested zero = bytes "A"
nested (suc k) = bytes "(B," ++ (nested k ++ bytes ")")

-- the nesting of the tree that is read, and one more; 0 for a text that is no tree
unfoldable pub nesting_read : Option Nodes → ℕ
unfolding nesting
nesting_read none = 0
nesting_read (some t) = suc (nesting t)

unfoldable pub nestings : List (ℕ × ℕ)
nestings = (0, 1) ∷ (1, 2) ∷ (63, 64) ∷ (64, 0) ∷ []

pub nestings-hold : map (λ r. nesting_read (reading (nested r.0))) nestings ≡ map (λ r. r.1) nestings
unfolding nestings nesting_read reading nested
nestings-hold = refl

-- ---- splits

pub masks-hold :
    (has 24 3 ≡ true)
    × (has 24 2 ≡ false)
    × (ones_below 5 25 ≡ 3)
    × (ones_below 4 25 ≡ 2)
    × (every_taxon 5 ≡ 31)
    × (without 28 20 ≡ 8)
    × (apart 6 24 ≡ true)
    × (apart 6 28 ≡ false)
    × (within 24 28 ≡ true)
    × (within 28 24 ≡ false)
    × (side 5 7 ≡ 24)
    × (side 5 24 ≡ 24)
    × (lowest 24 ≡ 3)
    × (widest 31 4 (28 ∷ 24 ∷ 31 ∷ []) ≡ 28)
unfolding has ones_below every_taxon without apart within side lowest widest
masks-hold = (refl, refl, refl, refl, refl, refl, refl, refl, refl, refl, refl, refl, refl, refl)

pub record Proper : Type 0 where
  pub name : String
  pub taxa : ℕ
  pub mask : ℕ
  pub says : Bool

unfoldable pub propers : List Proper
propers =
    record { name = "two taxa of five"; taxa = 5; mask = 24; says = true }
    ∷ record { name = "three taxa of five"; taxa = 5; mask = 28; says = true }
    ∷ record { name = "taxon 0"; taxa = 5; mask = 25; says = false }
    ∷ record { name = "one taxon"; taxa = 5; mask = 16; says = false }
    ∷ record { name = "four taxa of five"; taxa = 5; mask = 30; says = false }
    ∷ record { name = "a sixth taxon of five"; taxa = 5; mask = 56; says = false }
    ∷ record { name = "two taxa of 64"; taxa = 64; mask = 2 ^ 63 + 2; says = true }
    ∷ record { name = "one taxon of 64"; taxa = 64; mask = 2 ^ 63; says = false }
    ∷ []

pub propers-hold : map (λ r. proper r.taxa r.mask) propers ≡ map (λ r. r.says) propers
unfolding propers proper
propers-hold = refl

pub record Splits : Type 0 where
  pub name : String
  pub masks : List ℕ
  pub says : Bool

-- of six taxa
unfoldable pub good_trees : List Splits
good_trees =
    record { name = "none"; masks = []; says = true }
    ∷ record { name = "in order"; masks = 6 ∷ 48 ∷ 56 ∷ []; says = true }
    ∷ record { name = "one taxon"; masks = 6 ∷ 8 ∷ 56 ∷ []; says = false }
    ∷ record { name = "the same twice"; masks = 48 ∷ 48 ∷ []; says = false }
    ∷ record { name = "falling at the end"; masks = 6 ∷ 56 ∷ 24 ∷ []; says = false }
    ∷ record { name = "first and last disagree"; masks = 6 ∷ 24 ∷ 28 ∷ []; says = false }
    ∷ record { name = "the last two disagree"; masks = 6 ∷ 24 ∷ 40 ∷ []; says = false }
    ∷ []

pub good-trees-hold : map (λ r. good_tree 6 r.masks) good_trees ≡ map (λ r. r.says) good_trees
unfolding good_trees good_tree
good-trees-hold = refl
