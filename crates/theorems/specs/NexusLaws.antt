-- The reading function reads exactly the NEXUS files: what it reads is a file of the relation, it reads every file of the relation, and so
-- bytes give at most one file. Assumes nothing.
--
--   other-skip, others-skip     other blocks give nothing
--   ended-read, lines-read, listing-read, began-read     what is left of a file is read
--   read-exactly       the function and the relation say the same
--   file-once          bytes give at most one file
--   malformed-exactly  nothing is read exactly where there is no file: "15 block malformed"
use Rattle.std.specs.Prelude.{ℕ, ◌≤◌, ◌≡◌, refl, Bool, true, false, ◌&&◌, List, [], ◌∷◌, ◌++◌, length, if◌then◌else◌}
use Rattle.std.proofs.Common.{arith, ap, ◌∙◌, subst, append_assoc, append-nil, length-append, le-leb}
use Rattle.std.proofs.Math.Option.{Option, none, some}
use Rattle.trees.specs.Plain.{every, same_bytes, bytes}
use Rattle.trees.specs.Text.{semicolon, is_blank, parts}
use Rattle.trees.specs.Nexus.{uncommented, is_word, First, Pair, File, Begins, is-begin, EndsOther, NoneEnds, none-ends, not_yet, IsOthers, no_other, other, IsPairs, most_keys, MayTranslate, no-list, a-list, IsLine, is-line, IsLines, no_line, a-line, IsEnd, IsNexus}
use Rattle.trees.specs.NexusReading.{first_token, behind_first, read_pairs, is_end, Place, outside, in_other, in_trees, Move, wrong, to, lists, brings, block_begun, listed, line_given, moved, with_pairs, with_text, closes, reads_on, reads, read_file}
use Rattle.theorems.specs.ListLaws.{if-true, if-false, by-test}
use Rattle.theorems.specs.TokenLaws.{word-other, first_found, two-complete}
use Rattle.theorems.specs.CommandLaws.{ends-complete, ends-not, pairs-complete, line-complete, end-complete}
use Rattle.theorems.specs.NexusLeft.{Ended, is-ended, Lined, is-lined, is-listed, Began, is-began, nothing, file-began, began-file}
use Rattle.theorems.specs.NexusSoundLaws.{LeftOk, left-sound}

-- ---- one command

reads-step : (q : Place) (c : List ℕ) (ds : List (List ℕ)) → 1 ≤ length ds → reads q (c ∷ ds) ≡ reads_on (moved q c) (λ p. reads p ds)
unfolding reads
reads-step q c [] h = absurd (omega arith)
reads-step q c (d ∷ ds) h = refl

reads-move : (q : Place) (c : List ℕ) (ds : List (List ℕ)) (m : Move) → 1 ≤ length ds → moved q c ≡ m → reads q (c ∷ ds) ≡ reads_on m (λ p. reads p ds)
reads-move q c ds m h e = reads-step q c ds h ∙ ap (λ (n : Move). reads_on n (λ p. reads p ds)) e

reads-to : (q p : Place) (c : List ℕ) (ds : List (List ℕ)) → 1 ≤ length ds → moved q c ≡ to p → reads q (c ∷ ds) ≡ reads p ds
unfolding reads_on
reads-to q p c ds h e = reads-move q c ds (to p) h e

some_more : {A : Type 0} (l : List A) (x : A) (r : List A) → 1 ≤ length (l ++ (x ∷ r))
some_more l x r = omega (arith, length-append l (x ∷ r))

-- ---- other blocks

begin-moves : {c x : List ℕ} → Begins c x → (came : Bool) → moved (outside came) c ≡ (if is_word "TREES" x then if came then wrong else to (in_trees true) else to (in_other came))
unfolding moved block_begun
begin-moves (is-begin t e) came = ap (block_begun came) (two-complete t) ∙ if-true _ _ e

other-skip : {ns : List (List ℕ)} {e : List ℕ} → NoneEnds ns → EndsOther e → (came : Bool) (ds : List (List ℕ)) → 1 ≤ length ds → reads (in_other came) (ns ++ (e ∷ ds)) ≡ reads (outside came) ds
unfolding moved
other-skip {e = e} none-ends o came ds h = reads-to (in_other came) (outside came) e ds h (if-true _ _ (ends-complete o))
other-skip {e = e} (not_yet {c = c} {cs = cs} f n) o came ds h =
    reads-to (in_other came) (in_other came) c (cs ++ (e ∷ ds)) (some_more cs e ds) (if-false _ _ (ends-not f)) ∙ other-skip n o came ds h

others-skip : {os : List (List ℕ)} → IsOthers os → (came : Bool) (ds : List (List ℕ)) → 1 ≤ length ds → reads (outside came) (os ++ ds) ≡ reads (outside came) ds
others-skip no_other came ds h = refl
others-skip (other c x cs e os q b f n o rest) came ds h =
    ap (λ (y : List (List ℕ)). reads (outside came) (y ++ ds)) q
    ∙ ap (λ (y : List (List ℕ)). reads (outside came) (c ∷ y)) (append_assoc cs (e ∷ os) ds)
    ∙ reads-to (outside came) (in_other came) c (cs ++ (e ∷ (os ++ ds))) (some_more cs e (os ++ ds)) (begin-moves b came ∙ if-false _ _ f)
    ∙ other-skip n o came (os ++ ds) (omega (arith, length-append os ds))
    ∙ others-skip rest came ds h

ended-read : {cs : List (List ℕ)} → Ended cs → reads (outside true) cs ≡ some nothing
unfolding reads closes
ended-read (is-ended us e q o blank) = ap (reads (outside true)) q ∙ others-skip o true (e ∷ []) (omega arith) ∙ if-true _ _ blank

ended_some : {cs : List (List ℕ)} → Ended cs → 1 ≤ length cs
ended_some (is-ended us e q o blank) = omega (arith, ap length q, some_more us e [])

-- ---- the TREES block

no-and : (a b : Bool) → b ≡ false → (a && b) ≡ false
no-and true b e = e
no-and false b e = refl

not_end : (c : List ℕ) → is_word "END" (first_token c) ≡ false → is_end c ≡ false
unfolding is_end
not_end c e = ap (λ (b : Bool). b && every is_blank (behind_first c)) e

line_word : {c t : List ℕ} → IsLine c t → is_word "TREE" (first_token c) ≡ true
line_word (is-line a n e f word q blank h name blanks) = ap (is_word "TREE") (first_found f).token-found ∙ word

line-moves : {c t : List ℕ} → IsLine c t → (fresh : Bool) → moved (in_trees fresh) c ≡ brings t
unfolding moved line_given bytes same_bytes
line-moves {c} i fresh =
    if-false _ _ (not_end c (word-other "TREE" (first_token c) (line_word i) "END" refl))
    ∙ if-false _ _ (no-and fresh _ (word-other "TREE" (first_token c) (line_word i) "TRANSLATE" refl)) ∙ ap line_given (line-complete i)

lines-read : {ls ts ds : List (List ℕ)} {e : List ℕ} → IsLines ls ts → IsEnd e → Ended ds → (fresh : Bool) → reads (in_trees fresh) (ls ++ (e ∷ ds)) ≡ some (record { pairs = []; texts = ts })
unfolding moved reads_on with_text
lines-read {ds = ds} {e = e} no_line i d fresh = reads-to (in_trees fresh) (outside true) e ds (ended_some d) (if-true _ _ (end-complete i)) ∙ ended-read d
lines-read {ds = ds} {e = e} (a-line {c = c} {t = t} {cs = cs} l ls) i d fresh =
    reads-move (in_trees fresh) c (cs ++ (e ∷ ds)) (brings t) (some_more cs e ds) (line-moves l fresh) ∙ ap (with_text t) (lines-read ls i d false)

lined-read : {cs ts : List (List ℕ)} → Lined cs ts → (fresh : Bool) → reads (in_trees fresh) cs ≡ some (record { pairs = []; texts = ts })
lined-read (is-lined ls e ds q l i d) fresh = ap (reads (in_trees fresh)) q ∙ lines-read l i d fresh

lined-some : {cs ts : List (List ℕ)} → Lined cs ts → 1 ≤ length cs
lined-some (is-lined ls e ds q l i d) = omega (arith, ap length q, some_more ls e ds)

list-moves : {c w r : List ℕ} {ps : List Pair} → First c w r → is_word "TRANSLATE" w ≡ true → IsPairs (parts 44 false r) ps → length ps ≤ most_keys → moved (in_trees true) c ≡ lists ps
unfolding moved listed bytes same_bytes
list-moves {c} {w} {r} {ps} f e i h =
    let g = first_found f in
    let word : is_word "TRANSLATE" (first_token c) ≡ true = ap (is_word "TRANSLATE") g.token-found ∙ e in
    if-false _ _ (not_end c (word-other "TRANSLATE" (first_token c) word "END" refl))
    ∙ if-true _ _ word ∙ ap listed (ap (λ (y : List ℕ). read_pairs (parts 44 false y)) g.rest-found ∙ pairs-complete i) ∙ if-true _ _ (le-leb (length ps) most_keys h)

listing-read : {ls ds ts : List (List ℕ)} {ps : List Pair} → MayTranslate ls ps → Lined ds ts → reads (in_trees true) (ls ++ ds) ≡ some (record { pairs = ps; texts = ts })
unfolding reads_on with_pairs
listing-read no-list d = lined-read d true
listing-read {ds = ds} {ts = ts} (a-list {c = c} {ps = ps} f e i h) d =
    reads-move (in_trees true) c ds (lists ps) (lined-some d) (list-moves f e i h) ∙ ap (with_pairs ps) (lined-read d false)
    ∙ ap (λ (y : List Pair). some (record { pairs = y; texts = ts })) (append-nil ps)

-- ---- the file

began-read : {cs : List (List ℕ)} {x : File} → Began cs x → reads (outside false) cs ≡ some x
began-read (is-began os c w ds q o b word (is-listed ls rs p m d)) =
    ap (reads (outside false)) q ∙ others-skip o false (c ∷ ds) (omega arith)
    ∙ reads-to (outside false) (in_trees true) c ds (omega (arith, ap length p, length-append ls rs, lined-some d)) (begin-moves b false ∙ if-true _ _ word)
    ∙ ap (reads (in_trees true)) p ∙ listing-read m d

abbrev FileOk : List ℕ → Option File → Type 0
FileOk f none = Unit {0}
FileOk f (some x) = IsNexus f x

file-sound : (f : List ℕ) → FileOk f (read_file f)
unfolding read_file
file-sound f =
    let cs = parts semicolon false (behind_first (uncommented false f)) in
    by-test (FileOk f) (is_word "#NEXUS" (first_token (uncommented false f))) (λ e. go e (reads (outside false) cs) (left-sound (outside false) cs)) (λ e. tt)
  where
    go : is_word "#NEXUS" (first_token (uncommented false f)) ≡ true → (o : Option File) → LeftOk (outside false) (parts semicolon false (behind_first (uncommented false f))) o → FileOk f o
    go e none l = tt
    go e (some x) l = began-file e l

file-complete : (f : List ℕ) (x : File) → IsNexus f x → read_file f ≡ some x
unfolding read_file
file-complete f x i = let b = file-began i in if-true _ _ b.0 ∙ began-read b.1

-- ---- the theorems

pub read-exactly : (f : List ℕ) (x : File) → (read_file f ≡ some x → IsNexus f x) × (IsNexus f x → read_file f ≡ some x)
read-exactly f x = (λ e. subst (FileOk f) e (file-sound f), file-complete f x)

pub file-once : (f : List ℕ) (x y : File) → IsNexus f x → IsNexus f y → x ≡ y
file-once f x y i j = let e = file-complete f x i in let d = file-complete f y j in cc

pub malformed-exactly : (f : List ℕ) → (read_file f ≡ none → (x : File) → IsNexus f x → ⊥) × (((x : File) → IsNexus f x → ⊥) → read_file f ≡ none)
malformed-exactly f = (λ e x i. never x e (file-complete f x i), λ n. go (read_file f) refl n)
  where
    never : (x : File) → read_file f ≡ none → read_file f ≡ some x → ⊥
    never x e d = let z : ◌≡◌ {A = ℕ} 0 1 = cc in omega arith

    go : (o : Option File) → read_file f ≡ o → ((x : File) → IsNexus f x → ⊥) → read_file f ≡ none
    go none e n = e
    go (some x) e n = absurd (n x (subst (FileOk f) e (file-sound f)))
