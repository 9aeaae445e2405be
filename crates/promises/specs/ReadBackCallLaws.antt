-- What the calls write reads back by the calls: the bytes that `strict`, `majority`, `both` or `write_accepted` gives of a whole store, fed
-- whole to an empty lane of a whole store over the same names, the same or another. Assumes nothing.
--
--   given_is                 the bytes that a call gives are the first of the buffer that it leaves
--   ReadBackAs u s n a t     feeding n bytes of a tree with the splits s to the lent bytes u answers a and leaves t: the tree is accepted,
--                            and is then the last, without lengths, or is refused with 11 or 12, each exactly when there is no such room
--   text-reads-back          so is a tree's own text
--   strict-reads-back, majority-reads-back, both-read-back, accepted-reads-back     so is what the calls write
use Rattle.std.specs.Prelude.{ℕ, ◌<◌, ◌≡◌, ◌⊎◌, ◌↔◌, Bool, List, [], ◌∷◌, ◌++◌, ltb, eqb, length, take, drop, if◌then◌else◌}
use Rattle.std.proofs.Common.{arith, sym, subst, ◌∙◌, inl, inr}
use Rattle.std.proofs.Math.Path.{refl, ap}
use Rattle.std.proofs.Math.Bool.{true, false}
use Rattle.std.proofs.Math.Seq.{take-append_seam}
use Rattle.trees.specs.Plain.{Answer, refused, gives}
use Rattle.trees.specs.Consensus as of
use Rattle.trees.specs.Written.{written}
use Rattle.trees.specs.Held.{Held, holding, lane_of, Progress, accepted, feeding}
use Rattle.trees.specs.Questions.{if_room, if_tree, if_trees, tree, strict_of, majority_of, together, both_of, written_of}
use Rattle.trees.specs.Runs.{feed, fed, closed_lane, withdrew, answer, next}
use Rattle.trees.specs.Whole.{good_tree}
use Rattle.theorems.specs.Absent.{absent}
use Rattle.theorems.specs.ReadBackLaws.{NoTreeRoom, NoSplitRoom, ReadBack, reads-back, strict-whole, majority-whole, tree-whole}
use Rattle.answers.specs.Filled.{length_given, front, first_of, second_of, lengths_given}
use Rattle.answers.specs.AnswerLaws.{gives≢refused}
use Rattle.layout.specs.Store.{held_at}
use Rattle.layout.specs.WholeStore.{whole_at}
use Rattle.store.specs.HeldWholeLaws.{held_whole}
use Rattle.store.specs.Lent.{Holds}
use Rattle.promises.specs.Calls.{strict, majority, both, write-accepted, Reply, number, split, filled, both_filled, each_filled, weight, sums, claimed, fill, fill_each, reply, one, Told, heard, batched, replied, not_opened, told, after}
use Rattle.promises.specs.Steps.{Asked, Step}
use Rattle.promises.specs.StepLaws.{asked-follows, step_follows}
use Rattle.promises.specs.Outcomes.{value_or}

-- ---- the bytes that a call gives

number_in : Reply → Answer ℕ
number_in (number a) = a
number_in (split a) = refused 0
number_in (filled a out) = a
number_in (both_filled a masks counts) = a
number_in (each_filled a xs ys) = refused 0
number_in (weight a) = refused 0
number_in (sums a) = refused 0
number_in (claimed a) = refused 0

buffer_in : Reply → List ℕ
buffer_in (number a) = []
buffer_in (split a) = []
buffer_in (filled a out) = out
buffer_in (both_filled a masks counts) = masks
buffer_in (each_filled a xs ys) = xs
buffer_in (weight a) = []
buffer_in (sums a) = []
buffer_in (claimed a) = []

-- what is given is the list ys
abbrev Only : List ℕ → Answer (List ℕ) → Type 0
Only ys (refused k) = Unit {0}
Only ys (gives xs) = xs ≡ ys

module _ (ys : List ℕ) where
  only-room : (room : ℕ) → Only ys (if_room room ys)
  unfolding if_room
  only-room room = go (ltb room (length ys))
    where
      go : (b : Bool) → Only ys (if b then refused 4 else gives ys)
      go true = tt
      go false = refl

  only-trees : (h : Held) (x : Answer (List ℕ)) → Only ys x → Only ys (if_trees h x)
  unfolding if_trees
  only-trees h x g = go (eqb (length h.trees) 0)
    where
      go : (b : Bool) → Only ys (if b then refused 14 else x)
      go true = tt
      go false = g

  only-tree : (h : Held) (i : ℕ) (x : Answer (List ℕ)) → Only ys x → Only ys (if_tree h i x)
  unfolding if_tree
  only-tree h i x g = go (ltb i (length h.trees))
    where
      go : (b : Bool) → Only ys (if b then x else refused 13)
      go true = g
      go false = tt

-- a call that answers n gives the first n bytes of what it leaves
pub given_is : (x : Answer (List ℕ)) (out : List ℕ) (n : ℕ) (left : List ℕ) → filled (gives n) left ≡ fill x out → (x ≡ gives (take n left)) × (n ≡ length (take n left))
unfolding fill length_given front number_in buffer_in value_or
given_is (refused k) out n left e = absurd (gives≢refused n k (ap number_in e))
given_is (gives xs) out n left e =
    let m : n ≡ length xs = ap (λ (r : Reply). value_or 0 (number_in r)) e in
    let b : left ≡ xs ++ drop (length xs) out = ap buffer_in e in
    let f : take n left ≡ xs = rw (m, b) (take-append_seam xs (drop (length xs) out)) in
    (ap gives (sym f), m ∙ ap length (sym f))

given-front : (x : Answer (List ℕ)) (ys : List ℕ) → Only ys x → (out : List ℕ) (n : ℕ) (left : List ℕ) → filled (gives n) left ≡ fill x out
    → (take n left ≡ ys) × (n ≡ length ys)
given-front x ys g out n left e =
    let y = given_is x out n left e in
    let f : take n left ≡ ys = subst (Only ys) y.0 g in
    (f, y.1 ∙ ap length f)

-- what both calls give together is what each gives
each-filled : (x y : Answer (List ℕ)) (xs ys : List ℕ) (n m : ℕ) (left right : List ℕ) → each_filled (gives (n, m)) left right ≡ fill_each (together x y) xs ys
    → (filled (gives n) left ≡ fill x xs) × (filled (gives m) right ≡ fill y ys)
unfolding fill fill_each together length_given lengths_given first_of second_of front
each-filled (refused k) y xs ys n m left right e = let z : ◌≡◌ {A = ℕ} 0 1 = cc in absurd (omega arith)
each-filled (gives x) (refused k) xs ys n m left right e = let z : ◌≡◌ {A = ℕ} 0 1 = cc in absurd (omega arith)
each-filled (gives x) (gives y) xs ys n m left right e =
    let z : ◌≡◌ {A = ℕ × ℕ} (n, m) (length x, length y) = cc in
    let a : n ≡ length x = ap (λ (l : ℕ × ℕ). l.0) z in
    let b : m ≡ length y = ap (λ (l : ℕ × ℕ). l.1) z in
    (cc, cc)

-- ---- reading it back

pub record ReadBackAs (u s : List ℕ) (n : ℕ) (a : Told) (t : List ℕ) : Type 0 where
  pub whole : whole_at t ≡ true
  pub no_other : (a ≡ heard (fed n (gives (accepted (length (held_at u).trees))))) ⊎ ((a ≡ heard (fed n (refused 11))) ⊎ (a ≡ heard (fed n (refused 12))))
  pub eleven : (a ≡ heard (fed n (refused 11))) ↔ NoTreeRoom (held_at u)
  pub twelve : (a ≡ heard (fed n (refused 12))) ↔ NoSplitRoom (held_at u) s
  pub last-tree : a ≡ heard (fed n (gives (accepted (length (held_at u).trees)))) → (held_at t).trees ≡ (held_at u).trees ++ s ∷ []
  pub last-lengths : a ≡ heard (fed n (gives (accepted (length (held_at u).trees))))
      → (held_at t).lengths ≡ (held_at u).lengths ++ absent (held_at u).opening.numbers.kept s ∷ []
  pub no-tree : (a ≡ heard (fed n (gives (accepted (length (held_at u).trees)))) → ⊥) → (held_at t).trees ≡ (held_at u).trees
  pub no_lengths : (a ≡ heard (fed n (gives (accepted (length (held_at u).trees)))) → ⊥) → (held_at t).lengths ≡ (held_at u).lengths

answer_in : Told → Answer Progress
answer_in (heard (fed n a)) = a
answer_in (heard (closed_lane a)) = refused 0
answer_in (heard (withdrew a)) = refused 0
answer_in (batched a v) = refused 0
answer_in (replied a) = refused 0
answer_in (not_opened k) = refused 0

-- the text of the splits c of the store s, and the store u that it is fed to
module _ (s u : List ℕ) (w : whole_at s ≡ true) (v : whole_at u ≡ true) (names : (held_at u).opening.names ≡ (held_at s).opening.names) (l : ℕ)
    (lane : l < (held_at u).opening.numbers.lanes) (empty : lane_of (held_at u) l ≡ holding []) where
  abbrev text_of : List ℕ → List ℕ
  text_of c = written (held_at s).opening.names c

  module _ (c : List ℕ) (good : good_tree (held_at s).opening.numbers.taxa c ≡ true) (a : Told) (t : List ℕ) where
    abbrev text : List ℕ
    text = text_of c

    pub text-reads-back : Step u (one (feed l text)) a t → ReadBackAs u c (length text) a t
    text-reads-back q = record {
      whole = f.0.whole;
      no_other = either r.no_other;
      eleven = ((λ e. r.eleven.0 (forth (refused 11) e)), λ e. back (refused 11) (r.eleven.1 e));
      twelve = ((λ e. r.twelve.0 (forth (refused 12) e)), λ e. back (refused 12) (r.twelve.1 e));
      last-tree = λ e. held ∙ r.last-tree (forth _ e);
      last-lengths = λ e. lengths ∙ r.last-lengths (forth _ e);
      no-tree = λ e. held ∙ r.no-tree (λ d. e (back _ d));
      no_lengths = λ e. lengths ∙ r.no_lengths (λ d. e (back _ d));
    }
      where
        r : ReadBack (held_at u) c (length text) (feeding (held_at u) l text)
        r = reads-back (held_at s) (held_at u) (held_whole s w) (held_whole u v) names l lane empty c good

        f : Holds (after (held_at u) (one (feed l text))) u t × (a ≡ told (length u) (held_at u) (one (feed l text)))
        f = step_follows u v t (one (feed l text)) a q

        held : (held_at t).trees ≡ (feeding (held_at u) l text).after.trees
        held = unfold after next in ap (λ (h : Held). h.trees) f.0.held

        lengths : (held_at t).lengths ≡ (feeding (held_at u) l text).after.lengths
        lengths = unfold after next in ap (λ (h : Held). h.lengths) f.0.held

        is : a ≡ heard (fed (length text) (feeding (held_at u) l text).answer)
        is = unfold told answer in f.1 ∙ ap (λ (k : ℕ). heard (fed k (feeding (held_at u) l text).answer)) r.taken

        forth : (x : Answer Progress) → a ≡ heard (fed (length text) x) → (feeding (held_at u) l text).answer ≡ x
        forth x e = unfold answer_in in ap answer_in (sym is ∙ e)

        back : (x : Answer Progress) → (feeding (held_at u) l text).answer ≡ x → a ≡ heard (fed (length text) x)
        back x e = is ∙ ap (λ (y : Answer Progress). heard (fed (length text) y)) e

        either : ((feeding (held_at u) l text).answer ≡ gives (accepted (length (held_at u).trees)))
            ⊎ (((feeding (held_at u) l text).answer ≡ refused 11) ⊎ ((feeding (held_at u) l text).answer ≡ refused 12))
            → (a ≡ heard (fed (length text) (gives (accepted (length (held_at u).trees)))))
            ⊎ ((a ≡ heard (fed (length text) (refused 11))) ⊎ (a ≡ heard (fed (length text) (refused 12))))
        either (inl e) = inl (back _ e)
        either (inr (inl e)) = inr (inl (back _ e))
        either (inr (inr e)) = inr (inr (back _ e))

    -- the first n bytes of the buffer that an answer of this text leaves
    given-reads-back : (x : Answer (List ℕ)) → Only text x → (out : List ℕ) (n : ℕ) (left : List ℕ) → filled (gives n) left ≡ fill x out
        → Step u (one (feed l (take n left))) a t → ReadBackAs u c n a t
    given-reads-back x g out n left e q =
        let y = given-front x text g out n left e in
        subst (λ (k : ℕ). ReadBackAs u c k a t) (sym y.1) (text-reads-back (subst (λ (p : List ℕ). Step u (one (feed l p)) a t) y.0 q))

  -- ---- the calls

  module _ (out : List ℕ) (n : ℕ) (left : List ℕ) (a : Told) (t : List ℕ) (q : Step u (one (feed l (take n left))) a t) where
    strict-given : filled (gives n) left ≡ fill (strict_of (held_at s) (length out)) out → ReadBackAs u (of.strict (held_at s).trees) n a t
    unfolding strict_of
    strict-given e =
        let c = of.strict (held_at s).trees in
        given-reads-back c (strict-whole (held_at s) (held_whole s w)) a t (strict_of (held_at s) (length out))
        (only-trees (text_of c) (held_at s) (if_room (length out) (text_of c)) (only-room (text_of c) (length out))) out n left e q

    majority-given : filled (gives n) left ≡ fill (majority_of (held_at s) (length out)) out → ReadBackAs u (of.majority (held_at s).trees) n a t
    unfolding majority_of
    majority-given e =
        let c = of.majority (held_at s).trees in
        given-reads-back c (majority-whole (held_at s) (held_whole s w)) a t (majority_of (held_at s) (length out))
        (only-trees (text_of c) (held_at s) (if_room (length out) (text_of c)) (only-room (text_of c) (length out))) out n left e q

    pub strict-reads-back : Asked s (strict out) (filled (gives n) left) → ReadBackAs u (of.strict (held_at s).trees) n a t
    unfolding reply
    strict-reads-back p = strict-given (asked-follows s w (strict out) (filled (gives n) left) p)

    pub majority-reads-back : Asked s (majority out) (filled (gives n) left) → ReadBackAs u (of.majority (held_at s).trees) n a t
    unfolding reply
    majority-reads-back p = majority-given (asked-follows s w (majority out) (filled (gives n) left) p)

    pub accepted-reads-back : (i : ℕ) → Asked s (write-accepted i out) (filled (gives n) left) → ReadBackAs u (tree (held_at s) i) n a t
    unfolding reply written_of
    accepted-reads-back i p =
        let c = tree (held_at s) i in
        given-reads-back c (tree-whole (held_at s) (held_whole s w) i) a t (written_of (held_at s) i (length out))
        (only-tree (text_of c) (held_at s) i (if_room (length out) (text_of c)) (only-room (text_of c) (length out)))
        out n left (asked-follows s w (write-accepted i out) (filled (gives n) left) p) q

  module _ (xs ys : List ℕ) (n m : ℕ) (left right : List ℕ) (p : Asked s (both xs ys) (each_filled (gives (n, m)) left right)) (a : Told) (t : List ℕ) where
    pub both-read-back : (Step u (one (feed l (take n left))) a t → ReadBackAs u (of.strict (held_at s).trees) n a t)
        × (Step u (one (feed l (take m right))) a t → ReadBackAs u (of.majority (held_at s).trees) m a t)
    unfolding reply both_of
    both-read-back =
        let e = each-filled (strict_of (held_at s) (length xs)) (majority_of (held_at s) (length ys)) xs ys n m left right (asked-follows s w (both xs ys) (each_filled (gives (n, m)) left right) p) in
        ((λ q. strict-given xs n left a t q e.0), λ q. majority-given ys m right a t q e.1)
