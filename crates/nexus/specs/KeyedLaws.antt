-- What a bare text whose leaves are keys says of its plain text. Assumes nothing.
--
--   file-labelled        the names that a file lists are labels
--   uncommented-few      a text without its comments is no longer
--   symbols-behind, quotes-behind     blanks at the front of a text are no symbols and no quotes
--   keyed-reads          the plain text of a tree is the tree with its leaves renamed
--   keyed-bytes          how long it is at most
--   names-first          the names that are noted are the labels of its leaves
--   names-lie            and lie in the list
--   keyed-tokens, keyed-shaping, keyed-short     the plain text has the shape of the text, and the names for labels, and is not too long
--   behind-few           what stands behind a place is no longer
--   bare-stands          what the bytes of a bare text stand for
--   hands-refused, hands-room     the verdict on a plain text that is not written: it is refused, or gives splits
use Prim.Native.Nat.{ℕ, zero, suc, ◌+◌, ◌-◌, ◌*◌, ◌≤◌, ◌<◌, min}
use Rattle.std.proofs.Common.{arith, ap, ◌∙◌, true≢false, take_all, ne_eqb}
use Rattle.std.specs.Prelude.{◌≡◌, Bool, true, false, ◌||◌, not, ◌&&◌, eqb, length, get_or, take, if◌then◌else◌, Result, Option}
use Rattle.std.proofs.Math.Path.{refl, sym, ap₂}
use mathlib.Core.List.{List, [], ◌∷◌, ◌++◌, map, map-append}
use Rattle.std.proofs.Math.Option.{some}
use Rattle.std.proofs.lemmas.List.{length-map}
use Rattle.std.proofs.Math.Seq.{slice}
use Rattle.std.proofs.lemmas.List.Edits.{sets}
use Rattle.trees.specs.Plain.{member, bytes, byte, refused, gives}
use Rattle.trees.specs.Text.{apostrophe, is_blank, turned, open_after, kind, kind_in, blank, ended, symbols}
use Rattle.trees.specs.Verdict.{Branches, judged_with}
use Rattle.trees.specs.Held.{most_text, room_for}
use Rattle.trees.specs.Tree.{Nodes, leaves}
use Rattle.trees.specs.Reading.{reading}
use Rattle.trees.specs.Grammar.{IsNode}
use Rattle.trees.specs.Nexus.{Pair, File, behind_run, uncommented, behind_comment, IsPairs, no-pair, a_pair, is-named, MayTranslate, no-list, a-list, is-trees, IsNexus, is-nexus}
use Rattle.trees.specs.NexusReading.{read_file}
use Rattle.trees.specs.NexusCall.{name_of, replaced}
use Rattle.theorems.specs.ListLaws.{if-true, and-true, by-test, by-elim}
use Rattle.theorems.specs.TextLaws.{by_kind, symbols-cons}
use Rattle.theorems.specs.GrammarLaws.{reading-sound, reading-complete}
use Rattle.theorems.specs.NexusLaws.{read-exactly}
use Rattle.answers.specs.Answers.{progress_given}
use Rattle.head.specs.Head.{opening_at}
use Rattle.layout.specs.Store.{held_at}
use Rattle.layout.specs.WholeStore.{whole_at}
use Rattle.newick.specs.Running.{labels_at}
use Rattle.newick.specs.Leaves.{most_leaves, Tokens}
use Rattle.newick.specs.Shaping.{Shaping}
use Rattle.recording.specs.Recording.{Accepts}
use Rattle.nexus.specs.Named.{labelled, renamed, bytes_of}
use Rattle.nexus.specs.NamedTextLaws.{symbols-replaced, replaced-bytes}
use Rattle.nexus.specs.RenamedLaws.{node-named, node-free, leaves-renamed, spans-renamed}
use Rattle.nexus.specs.Places.{part}
use Rattle.nexus.specs.PartLaws.{part_length}
use Rattle.nexus.specs.Texts.{TextAs}
use Rattle.nexus.specs.Verdicts.{Hands}
use Rattle.nexus.specs.VerdictLaws.{text-refused, text-room, judges-refused, judges-room}
use Rattle.nexus.specs.FeedLaws.{judges-hands}
use Rattle.nexus.specs.Keyed.{most_keyed, Bare, NameAt, NamesThere, Standing}
use Rattle.answers.specs.declared.Refusal.{Refusal}
use Rattle.answers.specs.declared.Tree.{Tree}

-- ---- the names of a file

pairs-labelled : {rs : List (List ℕ)} {ps : List Pair} → IsPairs rs ps → labelled ps ≡ true
unfolding labelled
pairs-labelled no-pair = refl
pairs-labelled (a_pair f (is-named a e q b l d) r) = and-true l (pairs-labelled r)

listed-labelled : {ls : List (List ℕ)} {ps : List Pair} → MayTranslate ls ps → labelled ps ≡ true
unfolding labelled
listed-labelled no-list = refl
listed-labelled (a-list f w r n) = pairs-labelled r

nexus-labelled : {f : List ℕ} {x : File} → IsNexus f x → labelled x.pairs ≡ true
nexus-labelled (is-nexus os bs us e f w p o (is-trees c v ls cs d q b t m l i) u z) = listed-labelled m

pub file-labelled : (f : List ℕ) (x : File) → read_file f ≡ some x → labelled x.pairs ≡ true
file-labelled f x e = nexus-labelled ((read-exactly f x).0 e)

-- ---- comments and blanks

mutual
  unfolding uncommented behind_comment

  few-uncommented : (q : Bool) (s : List ℕ) → length (uncommented q s) ≤ length s
  few-uncommented q [] = omega arith
  few-uncommented q (b ∷ s) =
      by-elim (λ (l : List ℕ). length l ≤ suc (length s)) (not q && eqb b (byte "[")) (λ _. few-behind s) (λ _. omega (arith, few-uncommented (turned q b) s))

  few-behind : (s : List ℕ) → length (behind_comment s) ≤ suc (length s)
  few-behind [] = omega arith
  few-behind (b ∷ s) =
      by-elim (λ (l : List ℕ). length l ≤ suc (suc (length s))) (eqb b (byte "]")) (λ _. omega (arith, few-uncommented false s)) (λ _. omega (arith, few-behind s))

pub uncommented-few : (s : List ℕ) → length (uncommented false s) ≤ length s
uncommented-few s = few-uncommented false s

blank-first : (b : ℕ) (u : List ℕ) → is_blank b ≡ true → symbols (b ∷ u) ≡ symbols u
unfolding kind_in kind open_after ended by_kind
blank-first b u e = symbols-cons [] b u ∙ ap (λ k. by_kind k [] b u) (if-true blank _ e)

pub symbols-behind : (u : List ℕ) → symbols u ≡ symbols (behind_run is_blank u)
unfolding behind_run
symbols-behind [] = refl
symbols-behind (b ∷ u) = by-test (λ l. symbols (b ∷ u) ≡ symbols l) (is_blank b) (λ e. blank-first b u e ∙ symbols-behind u) (λ e. refl)

pub quotes-behind : (u : List ℕ) → member apostrophe (behind_run is_blank u) ≡ false → member apostrophe u ≡ false
unfolding behind_run member is_blank bytes
quotes-behind [] e = refl
quotes-behind (b ∷ u) e = go (is_blank b) refl e (quotes-behind u)
  where
    go : (t : Bool) → is_blank b ≡ t → member apostrophe (if t then behind_run is_blank u else b ∷ u) ≡ false
        → (member apostrophe (behind_run is_blank u) ≡ false → member apostrophe u ≡ false)
        → member apostrophe (b ∷ u) ≡ false
    go true p q f = ap (λ (x : Bool). x || member apostrophe u) (ne_eqb apostrophe b (λ x. true≢false (sym p ∙ ap is_blank (sym x)))) ∙ f q
    go false p q f = q

-- ---- the plain text

module _ (ps : List Pair) (good : labelled ps ≡ true) (text u : List ℕ) (same : symbols u ≡ symbols text) (bare : member apostrophe u ≡ false)
    (t : Nodes) (is_read : reading text ≡ some t) where
  node : IsNode 63 (symbols u) t
  node = rw same (reading-sound text t is_read)

  pub keyed-reads : reading (replaced ps u) ≡ some (renamed ps t)
  keyed-reads = reading-complete (replaced ps u) (renamed ps t) (rw (symbols-replaced ps good u bare) (node-named ps node))

  pub keyed-bytes : length (replaced ps u) ≤ length u + bytes_of (map (name_of ps) (leaves t))
  keyed-bytes = rw (node-free node) at (replaced-bytes ps u bare)

-- ---- the names that are noted

module _ (ps : List Pair) (list text tokens names : List ℕ) (k : ℕ) (each : (i : ℕ) → i < k → NameAt ps list text tokens names i) where
  pub names-first : (j : ℕ) → j ≤ k → labels_at list names j ≡ map (name_of ps) (labels_at text tokens j)
  unfolding labels_at
  names-first zero h = refl
  names-first (suc j) h =
      ap₂ (λ (x : List (List ℕ)) (y : List ℕ). x ++ (y ∷ [])) (names-first j (omega arith)) (each j (omega arith)).name
      ∙ sym (map-append (name_of ps) (labels_at text tokens j) (slice (get_or tokens (2 * j) 0) (get_or tokens (2 * j + 1) 0) text ∷ []))

  pub names-lie : Tokens list names k
  names-lie = record { begins = λ j h. (each j h).order; ends = λ j h. (each j h).within }

map-take : {A B : Type 0} (f : A → B) (j : ℕ) (l : List A) → map f (take j l) ≡ take j (map f l)
map-take f zero l = refl
map-take f (suc j) [] = refl
map-take f (suc j) (x ∷ l) = ap (λ r. f x ∷ r) (map-take f j l)

-- ---- the shape of the plain text

module _ (ps : List Pair) (good : labelled ps ≡ true) (list text tokens names nodes : List ℕ) (k inner n : ℕ)
    (x : Shaping text text k tokens inner nodes) (few : k ≤ most_keyed) (named : NamesThere ps list text tokens k names n) where
  pub keyed-tokens : Tokens list names (min k most_leaves)
  keyed-tokens = let e : min k most_leaves ≡ k = omega arith in rw e (names-lie ps list text tokens names k (named.each))

  all-leaves : labels_at text tokens k ≡ leaves x.tree
  all-leaves = x.first k (omega arith) ∙ take_all k (leaves x.tree) (omega (arith, x.count))

  module _ (u : List ℕ) (most : ℕ) (stands : Standing u text most) where
    pub keyed-shaping : Shaping (replaced ps u) list k names inner nodes
    keyed-shaping = record {
      tree = renamed ps x.tree;
      reads = keyed-reads ps good text u stands.same stands.quoteless x.tree x.reads;
      count = x.count ∙ sym (ap length (leaves-renamed ps x.tree) ∙ length-map (leaves x.tree) (name_of ps));
      first = λ j h.
          names-first ps list text tokens names k (named.each) j (omega arith)
          ∙ ap (map (name_of ps)) (x.first j h)
          ∙ map-take (name_of ps) j (leaves x.tree)
          ∙ ap (take j) (sym (leaves-renamed ps x.tree));
      before = x.before;
      room = x.room;
      spanned = x.spanned ∙ ap (sets x.before 0) (sym (spans-renamed ps 0 x.tree));
      nested = x.nested ∙ ap length (sym (spans-renamed ps 0 x.tree));
    }

    pub keyed-short : most ≤ most_text - n → length (replaced ps u) ≤ most_text
    keyed-short h =
        omega (
          arith,
          stands.few,
          named.bytes,
          ap (λ ws. bytes_of (map (name_of ps) ws)) all-leaves,
          keyed-bytes ps good text u stands.same stands.quoteless x.tree x.reads,
        )

pub behind-few : (s : List ℕ) (i : ℕ) → i ≤ length s → length (part i (length s) s) ≤ length s
behind-few s i h = omega (arith, part_length s i (length s) h (omega arith))

-- the bytes of a tree in a file stand for its text
pub bare-stands : (s : List ℕ) (i : ℕ) → Bare s i → Standing (uncommented false s) (part i (length s) s) (length s)
bare-stands s i b = record {
  same = symbols-behind (uncommented false s) ∙ ap symbols b.behind;
  quoteless = quotes-behind (uncommented false s) (ap (member apostrophe) b.behind ∙ b.quoteless);
  few = uncommented-few s;
}

-- ---- the verdict on a plain text that is known, and not written

module _ (s x : List ℕ) (short : length x ≤ most_text) (whole : whole_at s ≡ true) where
  as-text : TextAs x (length x) x
  as-text = record { fits = λ h. (refl, take_all (length x) x (omega arith)); over = λ h. absurd (omega arith) }

  pub hands-refused : (r : Result (Option Tree) Refusal) (k : ℕ) → judged_with (opening_at s).numbers.kept (opening_at s).names x ≡ refused k → progress_given r ≡ refused k → Hands s x r s
  hands-refused r k v e =
      let y = text-refused s x (length x) short k (ap (judged_with (opening_at s).numbers.kept (opening_at s).names) (take_all (length x) x (omega arith)) ∙ v) in
      judges-hands s x (length x) x r s as-text (judges-refused s x (length x) whole r k y e)

  pub hands-room : (b c : Branches) (t : List ℕ) (r : Result (Option Tree) Refusal) → c ≡ b → judged_with (opening_at s).numbers.kept (opening_at s).names x ≡ gives b
      → Accepts (room_for (held_at s) c) s r t
      → Hands s x r t
  hands-room b c t r d v a =
      let y = text-room s x (length x) short b (ap (judged_with (opening_at s).numbers.kept (opening_at s).names) (take_all (length x) x (omega arith)) ∙ v) in
      judges-hands s x (length x) x r t as-text (judges-room s x (length x) whole b c t r d y a)
