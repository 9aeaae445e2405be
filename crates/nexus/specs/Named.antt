-- Keys and names in the symbols of a text and in its tree. They say what replacing does to a text without quotes and comments, which is then
-- judged by its keys, its plain text unwritten.
--
--   labelled ps             the name of each of the pairs ps is a label
--   free_behind_symbol x      a token behind the symbol x is replaced
--   named ps free ss        the symbols ss with their keys replaced; free: a token at their front is
--   free_tokens free ss      the tokens of ss that may be keys
--   renamed ps t            the nodes t, the labels of their leaves replaced
--   bytes_of ws              how many bytes the labels ws have together
use Rattle.std.specs.Prelude.{ℕ, ◌+◌, Bool, true, false, ◌&&◌, List, [], ◌∷◌, length, if◌then◌else◌}
use Rattle.trees.specs.Text.{Symbol, open_bracket, close_bracket, comma, colon, stray, token, is_label}
use Rattle.trees.specs.Tree.{Nodes, nil, leaf, inner}
use Rattle.trees.specs.Nexus.{Pair}
use Rattle.trees.specs.NexusCall.{name_of}

unfoldable pub labelled : List Pair → Bool
unfolding is_label
labelled [] = true
labelled (p ∷ ps) = is_label p.1 && labelled ps

-- "except after `)` or `:`"
unfoldable pub free_behind_symbol : Symbol → Bool
free_behind_symbol open_bracket = true
free_behind_symbol close_bracket = false
free_behind_symbol comma = true
free_behind_symbol colon = false
free_behind_symbol stray = true
free_behind_symbol (token w) = true

unfoldable pub named_symbol : List Pair → Bool → Symbol → Symbol
unfolding name_of
named_symbol ps free open_bracket = open_bracket
named_symbol ps free close_bracket = close_bracket
named_symbol ps free comma = comma
named_symbol ps free colon = colon
named_symbol ps free stray = stray
named_symbol ps free (token w) = token (if free then name_of ps w else w)

unfoldable pub named : List Pair → Bool → List Symbol → List Symbol
unfolding named_symbol free_behind_symbol
named ps free [] = []
named ps free (x ∷ ss) = named_symbol ps free x ∷ named ps (free_behind_symbol x) ss

unfoldable pub with_free : Bool → Symbol → List (List ℕ) → List (List ℕ)
with_free free open_bracket r = r
with_free free close_bracket r = r
with_free free comma r = r
with_free free colon r = r
with_free free stray r = r
with_free free (token w) r = if free then w ∷ r else r

unfoldable pub free_tokens : Bool → List Symbol → List (List ℕ)
unfolding with_free free_behind_symbol
free_tokens free [] = []
free_tokens free (x ∷ ss) = with_free free x (free_tokens (free_behind_symbol x) ss)

unfoldable pub renamed : List Pair → Nodes → Nodes
unfolding name_of
renamed ps nil = nil
renamed ps (leaf w e r) = leaf (name_of ps w) e (renamed ps r)
renamed ps (inner c e r) = inner (renamed ps c) e (renamed ps r)

unfoldable pub bytes_of : List (List ℕ) → ℕ
bytes_of [] = 0
bytes_of (w ∷ ws) = length w + bytes_of ws
