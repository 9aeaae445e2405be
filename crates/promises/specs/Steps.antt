-- Runs of calls on lent bytes. Nothing here speaks of code, and no promise is written down a second time: a step is whatever the call's
-- contract allows, and its term is the contract's own: `Post`, of the call's lifetimes, of which no contract speaks, its arguments, its
-- answer and its arguments afterwards. A clause that is dropped from a contract is missed here.
--
--   lent s, lent_mut s     a slice with the elements s, to be read or to be written; no contract depends on where it lies, nor on the name that the prover gives a loan
--   Asked s q a        the question q of the lent bytes s may be answered a
--   Step s c a t       the call c on the lent bytes s may answer a and leave t
--   Steps s cs as t    the calls cs, one after another, each on what the one before left
--   Opens x names first second before s     an opening may be accepted in the bytes `before` and leave s
use Rattle.std.specs.Prelude.{ℕ, ◌≡◌, Bool, List, [], ◌∷◌, Float, Result}
use Rattle.std.specs.Borrow.{Bor, MutBor}
use Rattle.trees.specs.Plain.{refused, gives}
use Rattle.trees.specs.Opening.{Numbers}
use Rattle.trees.specs.Runs.{feed, hand, close, withdraw, fed, closed_lane, withdrew}
use Rattle.answers.specs.declared.Fed.{Fed}
use Rattle.answers.specs.declared.Claim.{Claim}
use Rattle.answers.specs.Answers.{finish_given, number_given, both_given, split_given, weight_given, split_lengths_given, claim_given, progress_given}
use Rattle.opening.specs.Given.{flag_of}
use Rattle.table.proofs.«open».Reads as opens
use Rattle.table.proofs.tree_count.Reads as tree_count
use Rattle.table.proofs.split_count.Reads as split_count
use Rattle.table.proofs.one_split.Reads as one_split_call
use Rattle.table.proofs.split_list.Reads as split_list
use Rattle.table.proofs.tree_splits.Reads as tree_splits
use Rattle.table.proofs.split_lengths.Reads as split_lengths
use Rattle.comparing.proofs.one_sided.Reads as one_sided
use Rattle.comparing.proofs.doubled.Reads as doubles
use Rattle.comparing.proofs.matrix.Reads as matrices
use Rattle.comparing.proofs.weighted.Reads as weighs
use Rattle.comparing.proofs.collisions.Reads as colliding
use Rattle.consensus.proofs.strict.Reads as stricts
use Rattle.consensus.proofs.majority.Reads as majorities
use Rattle.consensus.proofs.both.Reads as boths
use Rattle.consensus.proofs.write_accepted.Reads as writes
use Rattle.feeding.proofs.feed.Reads as feeds
use Rattle.feeding.proofs.close.Reads as closes
use Rattle.feeding.proofs.batch.Reads as batches
use Rattle.nexus.proofs.feed_file.Reads as files
use Rattle.withdrawing.proofs.withdraw.Reads as withdraws
use Rattle.splitfile.proofs.write_splits.Reads as writes_splits
use Rattle.splitfile.proofs.read_splits.Reads as reads_splits
use Rattle.splitfile.proofs.merge.Reads as merges
use Rattle.splitfile.proofs.strict_tree.Reads as strict_trees
use Rattle.splitfile.proofs.majority_tree.Reads as majority_trees
use Rattle.phylip.proofs.write_matrix.Reads as writes_matrix
use Rattle.claiming.proofs.claim.Reads as claims
use Rattle.release.proofs.write_release.Reads as releases
use Rattle.promises.specs.Calls.{Question, tree-count, split-count, one_split, split-list, tree-splits, one-sided, doubled, matrix, collisions, strict, majority, both, write-accepted, weighted, split-lengths, write-splits, read-splits, merge, strict_tree, majority-tree, write-matrix, claim, release, Reply, number, split, filled, both_filled, each_filled, weight, sums, claimed, Made, one, many, file, ask, reopen, Told, heard, batched, replied, not_opened}
use Rattle.answers.specs.declared.Refusal.{Refusal}
use Rattle.answers.specs.declared.Lengths.{Lengths}

abbrev pub lent : List ℕ → Bor (List ℕ)
lent s = record { ref_ptr = (0, 0); now = s }

abbrev pub lent_mut : List ℕ → MutBor (List ℕ)
lent_mut s = record { ref_ptr = (0, 0); ghost_name = 0; now = s }

-- ---- questions

-- a call may answer a number; or a number, and leave a buffer so
abbrev Counts : (Result ℕ Refusal → Type 0) → Reply → Type 0
Counts post a = (r : Result ℕ Refusal) × post r × (a ≡ number (number_given r))

abbrev Fills : (Result ℕ Refusal → List ℕ → Type 0) → Reply → Type 0
Fills post a = (r : Result ℕ Refusal) × (out : List ℕ) × post r out × (a ≡ filled (number_given r) out)

-- the store, split files and a text that is claimed are lent to be read, the buffers to be written
unfoldable pub Asked : List ℕ → Question → Reply → Type 0
unfolding number_given both_given split_given weight_given split_lengths_given claim_given
Asked s tree-count = Counts (λ r. tree_count.Post ([], tt) (lent s, tt) r (lent s, tt))
Asked s split-count = Counts (λ r. split_count.Post ([], tt) (lent s, tt) r (lent s, tt))
Asked s (one_split k) = λ a.
    (r : Result (ℕ × ℕ) Refusal) × one_split_call.Post ([], tt) (lent s, (record { 0 = k }, tt)) r (lent s, (record { 0 = k }, tt)) × (a ≡ split (split_given r))
Asked s (split-list m c) = λ a.
    (r : Result ℕ Refusal) × (m' : List ℕ) × (c' : List ℕ)
    × split_list.Post ([], ([], ([], tt))) (lent s, (lent_mut m, (lent_mut c, tt))) r (lent s, (lent_mut m', (lent_mut c', tt)))
    × (a ≡ both_filled (number_given r) m' c')
Asked s (tree-splits i m) =
    Fills (λ r m'. tree_splits.Post ([], ([], tt)) (lent s, (record { 0 = i }, (lent_mut m, tt))) r (lent s, (record { 0 = i }, (lent_mut m', tt))))
Asked s (one-sided i j) =
    Counts (λ r. one_sided.Post ([], tt) (lent s, (record { 0 = i }, (record { 0 = j }, tt))) r (lent s, (record { 0 = i }, (record { 0 = j }, tt))))
Asked s (doubled i j) =
    Counts (λ r. doubles.Post ([], tt) (lent s, (record { 0 = i }, (record { 0 = j }, tt))) r (lent s, (record { 0 = i }, (record { 0 = j }, tt))))
Asked s (matrix o) = Fills (λ r o'. matrices.Post ([], ([], tt)) (lent s, (lent_mut o, tt)) r (lent s, (lent_mut o', tt)))
Asked s collisions = Counts (λ r. colliding.Post ([], tt) (lent s, tt) r (lent s, tt))
Asked s (strict o) = Fills (λ r o'. stricts.Post ([], ([], tt)) (lent s, (lent_mut o, tt)) r (lent s, (lent_mut o', tt)))
Asked s (majority o) = Fills (λ r o'. majorities.Post ([], ([], tt)) (lent s, (lent_mut o, tt)) r (lent s, (lent_mut o', tt)))
Asked s (both m c) = λ a.
    (r : Result (ℕ × ℕ) Refusal) × (m' : List ℕ) × (c' : List ℕ)
    × boths.Post ([], ([], ([], tt))) (lent s, (lent_mut m, (lent_mut c, tt))) r (lent s, (lent_mut m', (lent_mut c', tt)))
    × (a ≡ each_filled (both_given r) m' c')
Asked s (write-accepted i o) =
    Fills (λ r o'. writes.Post ([], ([], tt)) (lent s, (record { 0 = i }, (lent_mut o, tt))) r (lent s, (record { 0 = i }, (lent_mut o', tt))))
Asked s (weighted i j) = λ a.
    (r : Result Float Refusal) × weighs.Post ([], tt) (lent s, (record { 0 = i }, (record { 0 = j }, tt))) r (lent s, (record { 0 = i }, (record { 0 = j }, tt)))
    × (a ≡ weight (weight_given r))
Asked s (split-lengths k) = λ a.
    (r : Result Lengths Refusal) × split_lengths.Post ([], tt) (lent s, (record { 0 = k }, tt)) r (lent s, (record { 0 = k }, tt)) × (a ≡ sums (split_lengths_given r))
Asked s (write-splits o) = Fills (λ r o'. writes_splits.Post ([], ([], tt)) (lent s, (lent_mut o, tt)) r (lent s, (lent_mut o', tt)))
Asked s (read-splits f m c) = λ a.
    (r : Result (ℕ × ℕ) Refusal) × (m' : List ℕ) × (c' : List ℕ)
    × reads_splits.Post ([], ([], ([], ([], tt)))) (lent s, (lent f, (lent_mut m, (lent_mut c, tt)))) r (lent s, (lent f, (lent_mut m', (lent_mut c', tt))))
    × (a ≡ each_filled (both_given r) m' c')
Asked s (merge f g o) =
    Fills (λ r o'. merges.Post ([], ([], ([], ([], tt)))) (lent s, (lent f, (lent g, (lent_mut o, tt)))) r (lent s, (lent f, (lent g, (lent_mut o', tt)))))
Asked s (strict_tree f o) =
    Fills (λ r o'. strict_trees.Post ([], ([], ([], tt))) (lent s, (lent f, (lent_mut o, tt))) r (lent s, (lent f, (lent_mut o', tt))))
Asked s (majority-tree f o) =
    Fills (λ r o'. majority_trees.Post ([], ([], ([], tt))) (lent s, (lent f, (lent_mut o, tt))) r (lent s, (lent f, (lent_mut o', tt))))
Asked s (write-matrix o) = Fills (λ r o'. writes_matrix.Post ([], ([], tt)) (lent s, (lent_mut o, tt)) r (lent s, (lent_mut o', tt)))
Asked s (claim t) = λ a. (r : Result Claim Refusal) × claims.Post ([], ([], tt)) (lent s, (lent t, tt)) r (lent s, (lent t, tt)) × (a ≡ claimed (claim_given r))
Asked s (release n x o) = Fills (λ r o'. releases.Post ([], ([], tt)) (lent s, (n, (x, (lent_mut o, tt)))) r (lent s, (n, (x, (lent_mut o', tt)))))

-- ---- openings

-- what opening with these arguments may answer of the bytes s, and leave; whether lengths are kept is a bool, so no call is made of numbers
-- with another `kept` than 0 or 1
abbrev pub Opened : Numbers → List ℕ → List ℕ → List ℕ → List ℕ → Result (Unit {0}) Refusal → List ℕ → Type 0
Opened x names first second s r t =
    (kept : Bool) × (flag_of kept ≡ x.kept)
    × opens.Post ([], ([], ([], ([], tt))))
    (lent_mut s, (x.taxa, (x.lanes, (x.tree_room, (x.split_room, (x.places, (kept, (lent names, (lent first, (lent second, tt))))))))))
    r
    (lent_mut t, (x.taxa, (x.lanes, (x.tree_room, (x.split_room, (x.places, (kept, (lent names, (lent first, (lent second, tt))))))))))

unfoldable pub Opens : Numbers → List ℕ → List ℕ → List ℕ → List ℕ → List ℕ → Type 0
unfolding finish_given
Opens x names first second before s = (r : Result (Unit {0}) Refusal) × Opened x names first second before r s × (finish_given r ≡ gives tt)

-- ---- calls

unfoldable pub Step : List ℕ → Made → Told → List ℕ → Type 0
unfolding progress_given finish_given number_given Asked
Step s (one (feed l p)) a t =
    (r : Fed) × feeds.Post ([], ([], tt)) (lent_mut s, (record { 0 = l }, (lent p, tt))) r (lent_mut t, (record { 0 = l }, (lent p, tt)))
    × (a ≡ heard (fed r.taken (progress_given r.progress)))
-- a text is handed in by a file alone
Step s (one (hand x)) a t = ⊥
Step s (one (close l)) a t =
    (r : Result (Unit {0}) Refusal) × closes.Post ([], tt) (lent_mut s, (record { 0 = l }, tt)) r (lent_mut t, (record { 0 = l }, tt)) × (a ≡ heard (closed_lane (finish_given r)))
Step s (one (withdraw k)) a t =
    (r : Result (Unit {0}) Refusal) × withdraws.Post ([], tt) (lent_mut s, (record { 0 = k }, tt)) r (lent_mut t, (record { 0 = k }, tt)) × (a ≡ heard (withdrew (finish_given r)))
Step s (many l p v) a t =
    (r : Result ℕ Refusal) × (w : List ℕ)
    × batches.Post ([], ([], ([], tt))) (lent_mut s, (record { 0 = l }, (lent p, (lent_mut v, tt)))) r (lent_mut t, (record { 0 = l }, (lent p, (lent_mut w, tt))))
    × (a ≡ batched (number_given r) w)
Step s (file f v) a t =
    (r : Result ℕ Refusal) × (w : List ℕ)
    × files.Post ([], ([], ([], tt))) (lent_mut s, (lent f, (lent_mut v, tt))) r (lent_mut t, (lent f, (lent_mut w, tt)))
    × (a ≡ batched (number_given r) w)
-- a question has the store as a `&[u8]`, which stays
Step s (ask q) a t = (x : Reply) × Asked s q x × (a ≡ replied x) × (t ≡ s)
-- an opening that answers a refusal
Step s (reopen x names first second) a t =
    (r : Result (Unit {0}) Refusal) × (k : ℕ) × Opened x names first second s r t × (finish_given r ≡ refused k) × (a ≡ not_opened k)

unfoldable pub Steps : List ℕ → List Made → List Told → List ℕ → Type 0
unfolding Step
Steps s [] as' t = (as' ≡ []) × (t ≡ s)
Steps s (c ∷ cs) as' t = (a : Told) × (rest : List Told) × (u : List ℕ) × (as' ≡ a ∷ rest) × Step s c a u × Steps u cs rest t
