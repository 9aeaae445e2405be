-- Further samples, of our own: calls. Pieces to lanes and closings, texts that are too long, batches, and runs of calls.
--
--   calls        pieces to lanes and closings, with the bytes taken and the answers
--   long_texts    the same with texts of 4,608 and 4,609 bytes
--   quoted_calls  semicolons in quotes, cut anywhere; quotes that never close
--   overruns     the same in lanes that ran over
--   lanes        lanes whose length is in range, and one whose is not
--   batches      batches, with the verdicts and what stands behind the last semicolon
--   runs-hold    final answers, whole texts, what is pending, other lanes for the same calls
use Rattle.std.specs.Prelude.{ℕ, Bool, true, false, List, [], ◌∷◌, ◌++◌, map, ◌≡◌, refl, replicate}
use Rattle.trees.specs.Plain.{bytes, byte, Answer, refused, gives}
use Rattle.trees.specs.Names.{names_in}
use Rattle.trees.specs.Held.{Held, Lane, holding, overrun, more_wanted, accepted, opened, feeding}
use Rattle.trees.specs.Whole.{good_lane}
use Rattle.trees.specs.Batch.{Batched, batch}
use Rattle.trees.specs.Runs.{Call, feed, hand, close, Heard, fed, closed_lane, answers, ending, accepted_as, refused_with, closed_with, finals, pending_after, whole_texts, on_lane, on_one_lane}

-- two lanes, room for two trees and two splits
abbrev shop : Held
shop =
    opened (record {
      numbers = record { taxa = 5; lanes = 2; tree_room = 2; split_room = 2; places = 1; kept = 0 };
      names = names_in (bytes "A B C D E");
      first = replicate 5 0;
      second = replicate 5 0;
    })

unfoldable pub calls : List (Call × Heard)
unfolding bytes
calls =
    (feed 0 (bytes "((A,B),C"), fed 8 (gives more_wanted))
    ∷ (feed 1 (bytes ""), fed 0 (gives more_wanted))
    ∷ (feed 1 (bytes "((A,B),D,(C,E)"), fed 14 (gives more_wanted))
    ∷ (feed 2 (bytes "x;"), fed 0 (refused 5))
    ∷ (feed 0 (bytes ",(D,E)); ignored"), fed 8 (gives (accepted 0)))
    ∷ (feed 1 (bytes ");"), fed 2 (refused 12))
    ∷ (feed 1 (bytes "(A,B);"), fed 6 (refused 10))
    ∷ (feed 1 (bytes "((D,E),(C,(A,B)));"), fed 18 (gives (accepted 1)))
    ∷ (feed 0 (bytes "((A,B),D,(C,E));"), fed 16 (refused 11))
    ∷ (feed 0 (bytes " x"), fed 2 (gives more_wanted))
    ∷ (close 0, closed_lane (refused 7))
    ∷ (close 0, closed_lane (gives tt))
    ∷ (close 2, closed_lane (refused 5))
    ∷ []

pub calls-hold : answers shop (map (λ c. c.0) calls) ≡ map (λ c. c.1) calls
unfolding answers calls opened names_in bytes
calls-hold = refl

-- the accepted trees, in order of acceptance, and empty lanes; the opening stays
pub calls-leave : ending shop (map (λ c. c.0) calls)
    ≡ record { opening = shop.opening; trees = (24 ∷ 28 ∷ []) ∷ (24 ∷ 28 ∷ []) ∷ []; lengths = [] ∷ [] ∷ []; texts = holding [] ∷ holding [] ∷ [] }
unfolding ending calls opened names_in bytes
calls-leave = refl

-- ---- texts that are too long

abbrev blanks : ℕ → List ℕ
blanks n = replicate n (byte " ")

unfoldable pub long_texts : List (Call × Heard)
unfolding bytes
long_texts =
    (feed 0 (blanks 4608 ++ bytes ";"), fed 4609 (refused 7))
    ∷ (feed 0 (blanks 4609 ++ bytes ";"), fed 4610 (refused 6))
    ∷ (feed 0 (blanks 4596 ++ bytes "(A,B,C,D,E);"), fed 4608 (gives (accepted 0)))
    ∷ (feed 0 (blanks 4608), fed 4608 (gives more_wanted))
    ∷ (feed 0 (bytes " ;"), fed 2 (refused 6))
    ∷ (feed 0 (blanks 4609), fed 4609 (gives more_wanted))
    ∷ (feed 0 (bytes "(A,B,C,"), fed 7 (gives more_wanted))
    ∷ (feed 0 (bytes "D,E);"), fed 5 (refused 6))
    ∷ (feed 0 (bytes "(A,B,C,D,E);"), fed 12 (gives (accepted 1)))
    ∷ (feed 0 (blanks 4608), fed 4608 (gives more_wanted))
    ∷ (close 0, closed_lane (gives tt))
    ∷ (feed 0 (blanks 4609), fed 4609 (gives more_wanted))
    ∷ (close 0, closed_lane (refused 6))
    ∷ (close 0, closed_lane (gives tt))
    ∷ []

pub long-texts-hold : answers shop (map (λ c. c.0) long_texts) ≡ map (λ c. c.1) long_texts
unfolding answers long_texts opened names_in bytes
long-texts-hold = refl

-- "only if an even number of apostrophes stands before it in that text"; closing starts the count anew
unfoldable pub quoted_calls : List (Call × Heard)
unfolding bytes
quoted_calls =
    (feed 0 (bytes "(A,B,C,D,'E')';';"), fed 17 (gives (accepted 0)))
    ∷ (feed 0 (bytes "(A,B,C,D,E)'"), fed 12 (gives more_wanted))
    ∷ (feed 1 (bytes "A;"), fed 2 (refused 10))
    ∷ (feed 0 (bytes ";"), fed 1 (gives more_wanted))
    ∷ (feed 0 (bytes "x'"), fed 2 (gives more_wanted))
    ∷ (feed 0 (bytes "';"), fed 2 (gives more_wanted))
    ∷ (feed 0 (bytes "';;"), fed 2 (gives (accepted 1)))
    ∷ (feed 0 (bytes "';"), fed 2 (gives more_wanted))
    ∷ (close 0, closed_lane (refused 7))
    ∷ (feed 0 (bytes ";"), fed 1 (refused 7))
    ∷ []

pub quoted-calls-hold : answers shop (map (λ c. c.0) quoted_calls) ≡ map (λ c. c.1) quoted_calls
unfolding answers quoted_calls opened names_in bytes
quoted-calls-hold = refl

-- "in an overrun lane too"
unfoldable pub overruns : List (Call × Heard)
unfolding bytes
overruns =
    (feed 0 (blanks 4609), fed 4609 (gives more_wanted))
    ∷ (feed 0 (bytes "';x"), fed 3 (gives more_wanted))
    ∷ (feed 0 (bytes ";';"), fed 3 (refused 6))
    ∷ (feed 0 (bytes "'" ++ blanks 4608), fed 4609 (gives more_wanted))
    ∷ (feed 0 (bytes ";"), fed 1 (gives more_wanted))
    ∷ (close 0, closed_lane (refused 6))
    ∷ (feed 0 (bytes ";"), fed 1 (refused 7))
    ∷ []

pub overruns-hold : answers shop (map (λ c. c.0) overruns) ≡ map (λ c. c.1) overruns
unfolding answers overruns opened names_in bytes
overruns-hold = refl

unfoldable pub lanes : List (Lane × Bool)
lanes = (holding [], true) ∷ (holding (blanks 4608), true) ∷ (holding (blanks 4609), false) ∷ (overrun false, true) ∷ (overrun true, true) ∷ []

pub lanes-hold : map (λ r. good_lane r.0) lanes ≡ map (λ r. r.1) lanes
unfolding lanes good_lane
lanes-hold = refl

-- ---- batches

-- what a batch gives: its verdicts, and the lanes afterwards
unfoldable pub given : Answer Batched → Answer (List ℕ × List Lane)
given (refused k) = refused k
given (gives b) = gives (b.verdicts, b.after.texts)

-- the first half of a text in lane 0
abbrev begun : Held
begun = (feeding shop 0 (bytes "((A,B),C")).after

abbrev rest : List ℕ
rest = bytes ",(D,E));(A,B);(A,B,C,D,E); (A"

unfoldable pub batches : List (Answer Batched × Answer (List ℕ × List Lane))
unfolding batch feeding opened names_in bytes
batches =
    (batch begun 0 rest 3, gives (256 ∷ 10 ∷ 257 ∷ [], holding (bytes " (A") ∷ holding [] ∷ []))
    ∷ (batch begun 1 rest 9, gives (7 ∷ 10 ∷ 256 ∷ [], holding (bytes "((A,B),C") ∷ holding (bytes " (A") ∷ []))
    ∷ (batch begun 0 (bytes ",") 0, gives ([], holding (bytes "((A,B),C,") ∷ holding [] ∷ []))
    ∷ (batch begun 0 (bytes "';';(A,B);") 1, refused 4)
    ∷ (batch begun 0 (bytes "';';(A,B);'") 2, gives (7 ∷ 10 ∷ [], holding (bytes "'") ∷ holding [] ∷ []))
    ∷ (batch begun 0 rest 2, refused 4)
    ∷ (batch begun 2 rest 2, refused 5)
    ∷ []

pub batches-hold : map (λ r. given r.0) batches ≡ map (λ r. r.1) batches
unfolding batches given
batches-hold = refl

-- ---- runs

abbrev cut : List Call
cut =
    feed 0 (bytes "A") ∷ hand (bytes "F") ∷ feed 1 (bytes "C") ∷ feed 0 (bytes ";x") ∷ feed 2 (bytes "D;") ∷ feed 0 (bytes "B") ∷ close 1 ∷ close 2
    ∷ feed 1 (bytes "E") ∷ []

abbrev quoted_cut : List Call
quoted_cut = feed 0 (bytes "A'") ∷ feed 1 (bytes "B;") ∷ feed 0 (bytes ";") ∷ feed 0 (bytes "';x") ∷ feed 1 (bytes "';") ∷ []

pub runs-hold :
    (finals (fed 3 (gives more_wanted) ∷ fed 4 (gives (accepted 2)) ∷ fed 1 (refused 7) ∷ closed_lane (refused 6) ∷ closed_lane (gives tt) ∷ [])
    ≡ accepted_as 2 ∷ refused_with 7 ∷ closed_with (refused 6) ∷ closed_with (gives tt) ∷ [])
    × (whole_texts 2 cut ≡ hand (bytes "F") ∷ feed 0 (bytes "A;") ∷ feed 2 (bytes "D;") ∷ feed 1 (bytes "C") ∷ close 1 ∷ close 2 ∷ [])
    × (whole_texts 2 quoted_cut ≡ feed 1 (bytes "B;") ∷ feed 0 (bytes "A';';") ∷ [])
    × (pending_after ([] ∷ [] ∷ []) quoted_cut ≡ [] ∷ bytes "';" ∷ [])
    × (pending_after ([] ∷ [] ∷ []) cut ≡ bytes "B" ∷ bytes "E" ∷ [])
    × (map (on_lane (on_one_lane 2)) (feed 1 [] ∷ close 1 ∷ hand [] ∷ feed 2 [] ∷ close 3 ∷ []) ≡ feed 0 [] ∷ close 0 ∷ hand [] ∷ feed 2 [] ∷ close 3 ∷ [])
unfolding finals whole_texts pending_after on_lane on_one_lane bytes
runs-hold = (refl, refl, refl, refl, refl, refl)
