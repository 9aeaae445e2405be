-- The bytes of a text, where it ends, and what it is read as. A text is every byte since the last one ended or its lane was closed.
-- Request 2026-02 of document 02 is quoted beside document 01.
--
--   semicolon, apostrophe     the byte that ends a text, and the quote
--   is_blank b         a blank
--   is_label_byte b     a label byte
--   is_quoted_byte b    a byte that may stand in quotes
--   turned q b        whether quotes are open behind the byte b; q, as everywhere here: whether they are open before it
--   open_after q s          whether quotes are open behind the bytes s
--   ends_text q b      the byte b ends a text
--   has_end q p        one of the bytes p does
--   before_end q p     the bytes p up to the first that does; all of them if none does
--   parts x q s       the parts of s between its bytes x outside quotes
--   is_label w         the bytes w are a label, as it stands in a text: with its quotes, if it has any
--   read_as w          what a label is read as
--   Symbol            what a text is made of: a token, a bracket, a comma, a colon; or a stray one, which no tree has
--   kind b            what the byte b is outside quotes
--   symbols s         the symbols of the text s, blanks left out
use Rattle.std.specs.Prelude.{ℕ, Bool, true, false, ◌&&◌, ◌||◌, not, List, [], ◌∷◌, ◌++◌, map, leb, eqb, length, if◌then◌else◌}
use Rattle.trees.specs.Plain.{every, member, bytes, byte}

-- ---- bytes

abbrev pub semicolon : ℕ
semicolon = byte ";"

abbrev pub apostrophe : ℕ
apostrophe = byte "'"

-- "Blanks are space, tab, CR and LF"
unfoldable pub is_blank : ℕ → Bool
unfolding member bytes
is_blank b = member b (bytes " \t\r\n")

-- "33 to 126, without `( ) [ ] ' : ; ,`"
unfoldable pub is_label_byte : ℕ → Bool
unfolding member bytes
is_label_byte b = leb 33 b && (leb b 126 && not (member b (bytes "()[]':;,")))

-- "Quoted bytes may be 32 to 126"
unfoldable pub is_quoted_byte : ℕ → Bool
is_quoted_byte b = leb 32 b && leb b 126

-- ---- quotes, and where a text ends

-- quotes are open behind an odd number of apostrophes
unfoldable pub turned : Bool → ℕ → Bool
turned q b = if eqb b apostrophe then not q else q

unfoldable pub open_after : Bool → List ℕ → Bool
unfolding turned
open_after q [] = q
open_after q (b ∷ s) = open_after (turned q b) s

-- "A semicolon ends a text only if an even number of apostrophes stands before it in that text"
unfoldable pub ends_text : Bool → ℕ → Bool
ends_text q b = not q && eqb b semicolon

unfoldable pub has_end : Bool → List ℕ → Bool
unfolding ends_text turned
has_end q [] = false
has_end q (b ∷ p) = ends_text q b || has_end (turned q b) p

unfoldable pub before_end : Bool → List ℕ → List ℕ
unfolding ends_text turned
before_end q [] = []
before_end q (b ∷ p) = if ends_text q b then [] else b ∷ before_end (turned q b) p

-- the byte b before the first part
unfoldable pub with_byte : ℕ → List (List ℕ) → List (List ℕ)
with_byte b [] = []
with_byte b (w ∷ ws) = (b ∷ w) ∷ ws

-- as in "quoted names, whose spaces neither part names nor are counted"
unfoldable pub parts : ℕ → Bool → List ℕ → List (List ℕ)
unfolding turned with_byte
parts x q [] = [] ∷ []
parts x q (b ∷ s) =
    let r = parts x (turned q b) s in
    if not q && eqb b x then [] ∷ r else with_byte b r

-- ---- labels

-- outside quotes nothing but the second of two quotes, which opens them again; at the end they are closed
unfoldable pub is_quoted : Bool → List ℕ → Bool
unfolding turned is_quoted_byte
is_quoted q [] = not q
is_quoted q (b ∷ w) = (eqb b apostrophe || (q && is_quoted_byte b)) && is_quoted (turned q b) w

-- "A token is a longest run of label bytes"; "a label in single quotes", and "an empty quoted label is 7"
unfoldable pub is_label : List ℕ → Bool
unfolding every is_label_byte is_quoted
is_label [] = false
is_label (b ∷ w) = if eqb b apostrophe then leb 2 (length w) && is_quoted true w else every is_label_byte (b ∷ w)

-- "an underscore in an unquoted label stands for a blank"
unfoldable pub spaced : ℕ → ℕ
spaced b = if eqb b (byte "_") then byte " " else b

-- a label in quotes "is taken as it is, two quotes inside meaning one": the second of them; w from behind the first quote on
unfoldable pub unquoted : Bool → List ℕ → List ℕ
unfolding turned
unquoted q [] = []
unquoted q (b ∷ w) =
    let r = unquoted (turned q b) w in
    if q && eqb b apostrophe then r else b ∷ r

unfoldable pub read_as : List ℕ → List ℕ
unfolding spaced unquoted
read_as [] = []
read_as (b ∷ w) = if eqb b apostrophe then unquoted true w else map spaced (b ∷ w)

-- ---- symbols

pub data Symbol : Type 0 where
  open_bracket close_bracket comma colon stray : Symbol
  token : List ℕ → Symbol

pub data Kind : Type 0 where
  blank label : Kind
  mark : Symbol → Kind

-- a blank, one of the marks `( ) , :`, a byte of a label, an apostrophe too, or a byte that is none of these
unfoldable pub kind : ℕ → Kind
unfolding is_blank is_label_byte
kind b =
    if is_blank b then blank
    else if eqb b (byte "(") then mark open_bracket
    else if eqb b (byte ")") then mark close_bracket
    else if eqb b (byte ",") then mark comma
    else if eqb b (byte ":") then mark colon
    else if is_label_byte b then label
    else if eqb b apostrophe then label
    else mark stray

-- in quotes every byte is one of a label
unfoldable pub kind_in : Bool → ℕ → Kind
unfolding kind
kind_in q b = if q then label else kind b

-- a run of bytes that has ended, before the symbols that follow: a token, if it is a label; no bytes are none
unfoldable pub ended : List ℕ → List Symbol → List Symbol
unfolding is_label
ended [] r = r
ended (b ∷ w) r = (if is_label (b ∷ w) then token (b ∷ w) else stray) ∷ r

-- the symbols of s, behind the bytes w of a run that has not ended
unfoldable pub symbols_after : List ℕ → List ℕ → List Symbol
unfolding kind_in open_after ended
symbols_after w [] = ended w []
symbols_after w (b ∷ s) =
    elim (kind_in (open_after false w) b)
    [ blank ↦ ended w (symbols_after [] s) | label ↦ symbols_after (w ++ b ∷ []) s | mark m ↦ ended w (m ∷ symbols_after [] s) ]

-- a label is a longest run of label bytes, apostrophes and what stands in quotes; blanks "may stand anywhere but inside a token"
abbrev pub symbols : List ℕ → List Symbol
symbols s = symbols_after [] s
