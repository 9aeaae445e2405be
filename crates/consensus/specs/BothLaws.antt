-- Laws of both consensus trees at once. Assumes nothing.
--
--   both-same, same-both          where both single calls give a tree, the same two are given together; and where two are, they are the same
--   both-none, both_some          by the strict tree in a buffer that is long enough for every tree: its refusal, or as it stands there
--   copied-front                  a text that is copied to the front of a buffer
--   give-short, give-second, give-both     the strict text as it stands in a buffer, and the majority tree: 4, the second's refusal, or both
use Prim.Native.Nat.{ℕ, ◌≤◌, ◌<◌}
use Rattle.std.proofs.Common.{arith, zero-add, sym, ◌∙◌, take_at, lt-ltb, le-ltb}
use Rattle.std.proofs.Math.Path.{◌≡◌, ap}
use Rattle.std.specs.Prelude.{refl, Bool, true, false, eqb, take, drop, if◌then◌else◌, Ok, Err, ℕ}
use mathlib.Core.List.{List, ◌++◌}
use Rattle.std.proofs.Math.ListN.{length, length-append}
use Rattle.std.proofs.lemmas.List.Edits.{sets-eq}
use Rattle.std.proofs.Math.Seq.{length-take-le}
use Rattle.trees.specs.Plain.{Answer, refused, gives}
use Rattle.trees.specs.Held.{Held}
use Rattle.trees.specs.Consensus.{strict}
use Rattle.trees.specs.Written.{written}
use Rattle.trees.specs.Questions.{if_room, if_trees, strict_of, majority_of, together, both_of}
use Rattle.theorems.specs.ConsensusLaws.{strict-good}
use Rattle.answers.specs.declared.Refusal.{Refusal}
use Rattle.answers.specs.declared.Refusal.TheVariants as why
use Rattle.answers.specs.Answers.{refusal_number, refusing, number_given}
use Rattle.answers.specs.Filled.{length_given, front, FilledAs, BothFilledAs}
use Rattle.answers.specs.AnswerLaws.{both-refused, both-second, both-filled, gives≢refused}
use Rattle.fields.specs.Run.{copied}
use Rattle.head.specs.Head.{numbers_at}
use Rattle.layout.specs.Store.{held_at}
use Rattle.layout.specs.WholeStore.{whole_at}
use Rattle.store.specs.Lent.{if_whole}
use Rattle.consensus.specs.Consensus.{strict_asked, majority_asked, both_asked}
use Rattle.consensus.specs.FewLaws.{tree-short, trees-good}

-- ---- two answers together

-- 1 is the same of each call
whole-together : {A B : Type 0} (s : List ℕ) (f : Held → Answer A) (g : Held → Answer B)
    → if_whole s (λ h. together (f h) (g h)) ≡ together (if_whole s f) (if_whole s g)
unfolding if_whole together
whole-together s f g = go (whole_at s)
  where
    go : (b : Bool) → (if b then together (f (held_at s)) (g (held_at s)) else refused 1)
        ≡ together (if b then f (held_at s) else refused 1) (if b then g (held_at s) else refused 1)
    go true = refl
    go false = refl

module _ (s : List ℕ) (a b : ℕ) (x y : List ℕ) where
  both-together : both_asked s a b ≡ together (strict_asked s a) (majority_asked s b)
  unfolding both_of
  both-together = whole-together s (λ h. strict_of h a) (λ h. majority_of h b)

  pub both-same : strict_asked s a ≡ gives x → majority_asked s b ≡ gives y → both_asked s a b ≡ gives (x, y)
  unfolding together
  both-same p q = both-together ∙ rw (p, q)

  pub same-both : both_asked s a b ≡ gives (x, y) → (strict_asked s a ≡ gives x) × (majority_asked s b ≡ gives y)
  unfolding together
  same-both e = go (strict_asked s a) (majority_asked s b) (sym both-together ∙ e)
    where
      go : (p q : Answer (List ℕ)) → together p q ≡ gives (x, y) → (p ≡ gives x) × (q ≡ gives y)
      go (refused k) q f = absurd (gives≢refused (x, y) k (sym f))
      go (gives p) (refused k) f = absurd (gives≢refused (x, y) k (sym f))
      go (gives p) (gives q) f =
          let e : ◌≡◌ {A = List ℕ × List ℕ} (p, q) (x, y) = cc in
          (ap gives (ap (λ (z : List ℕ × List ℕ). z.0) e), ap gives (ap (λ (z : List ℕ × List ℕ). z.1) e))

-- ---- the strict tree, elsewhere first

-- what is given in a long buffer, where it must fit into `room` elements
narrowed : ℕ → Answer (List ℕ) → Answer (List ℕ)
narrowed room (refused k) = refused k
narrowed room (gives xs) = if_room room xs

narrow-trees : (h : Held) (t : List ℕ) (long room : ℕ) → length t ≤ long → if_trees h (if_room room t) ≡ narrowed room (if_trees h (if_room long t))
unfolding if_trees if_room narrowed
narrow-trees h t long room f = rw (le-ltb long (length t) f) (go (eqb (length h.trees) 0))
  where
    go : (b : Bool) → (if b then refused 14 else if_room room t) ≡ narrowed room (if b then refused 14 else gives t)
    go true = refl
    go false = refl

module _ (s : List ℕ) (w : whole_at s ≡ true) (old text : List ℕ) (long : 4349 ≤ length old) where
  narrow-strict : (room : ℕ) → strict_of (held_at s) room ≡ narrowed room (strict_of (held_at s) (length old))
  unfolding strict_of
  narrow-strict room =
      let short = tree-short s w (strict (held_at s).trees) (strict-good (numbers_at s).taxa (held_at s).trees (trees-good s w)) in
      narrow-trees (held_at s) (written (held_at s).opening.names (strict (held_at s).trees)) (length old) room (omega arith)

  both-narrow : (a b : ℕ) → both_of (held_at s) a b ≡ together (narrowed a (strict_of (held_at s) (length old))) (majority_of (held_at s) b)
  unfolding both_of
  both-narrow a b = ap (λ (x : Answer (List ℕ)). together x (majority_of (held_at s) b)) (narrow-strict a)

  pub both-none : (first second : List ℕ) (r : Refusal) → FilledAs (strict_of (held_at s) (length old)) (Err r) old text
      → BothFilledAs (both_of (held_at s) (length first) (length second)) (Err r) first second first second
  unfolding together narrowed number_given length_given
  both-none first second r f =
      both-refused _ first second r (both-narrow (length first) (length second) ∙ go (strict_of (held_at s) (length old)) f.0)
    where
      go : (x : Answer (List ℕ)) → number_given (Err r) ≡ length_given x
          → together (narrowed (length first) x) (majority_of (held_at s) (length second)) ≡ refusing r
      go (refused k) e = cc
      go (gives xs) e = absurd (gives≢refused (length xs) (refusal_number r) (sym e))

  pub both_some : (a b n : ℕ) → FilledAs (strict_of (held_at s) (length old)) (Ok n) old text
      → (n ≤ length text) × (both_of (held_at s) a b ≡ together (if_room a (take n text)) (majority_of (held_at s) b))
  unfolding narrowed number_given length_given front
  both_some a b n f =
      let g = go (strict_of (held_at s) (length old)) f in
      (g.0, both-narrow a b ∙ ap (λ (x : Answer (List ℕ)). together x (majority_of (held_at s) b)) g.1)
    where
      go : (x : Answer (List ℕ)) → FilledAs x (Ok n) old text → (n ≤ length text) × (narrowed a x ≡ if_room a (take n text))
      go (refused k) e = absurd (gives≢refused n k e.0)
      go (gives xs) e =
          let l : n ≡ length xs = cc in
          (rw e.1 (omega (arith, length-append xs (drop (length xs) old))), ap (if_room a) (sym (rw e.1 (take_at xs (drop (length xs) old) n (sym l)))))

-- ---- both, given

pub copied-front : (out text after : List ℕ) (n : ℕ) → n ≤ length out → n ≤ length text → after ≡ copied out 0 text 0 n
    → after ≡ take n text ++ drop (length (take n text)) out
unfolding copied
copied-front out text after n h k e =
    let l = length-take-le n text k in
    e ∙ sets-eq (take n text) out 0 (omega arith) ∙ rw zero-add

module _ (text first second : List ℕ) (n : ℕ) (y : Answer (List ℕ)) (fits : n ≤ length text) where
  abbrev given : Answer (List ℕ × List ℕ)
  given = together (if_room (length first) (take n text)) y

  pub give-short : length first < n → BothFilledAs given (Err why.TooShort) first second first second
  unfolding if_room together refusal_number
  give-short h =
      let l = length-take-le n text fits in
      both-refused _ first second why.TooShort (rw (lt-ltb (length first) (length (take n text)) (omega arith)))

  module _ (room : n ≤ length first) (m : List ℕ) where
    given-first : given ≡ together (gives (take n text)) y
    unfolding if_room
    given-first =
        let l = length-take-le n text fits in
        rw (le-ltb (length first) (length (take n text)) (omega arith))

    pub give-second : (r : Refusal) → FilledAs y (Err r) second m → BothFilledAs given (Err r) first second first m
    give-second r f = both-second given first second (take n text) y given-first m r f

    pub give-both : (k : ℕ) (after : List ℕ) → after ≡ copied first 0 text 0 n → FilledAs y (Ok k) second m
        → BothFilledAs given (Ok (n, k)) first second after m
    give-both k after e f =
        both-filled given first second (take n text) y given-first m n k after (sym (length-take-le n text fits)) (copied-front first text after n room fits e) f
