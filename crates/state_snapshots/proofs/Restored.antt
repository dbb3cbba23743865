-- Images that are read one after the other, and put in their places.
use Rattle.std.proofs.Common.{◌≡◌, ℕ, ◌+◌, ◌≤◌, ℤ, pos, List, [], ◌∷◌, ◌++◌, length, take, drop, Option, Some, None, refl, sym, ap, subst, ◌∙◌, append_assoc, append-nil, arith}
use Rattle.std.specs.Prelude.{map, IfSome, ◌≤ℤ◌}
use Rattle.std.specs.List.{flat_map, AllByRecursion}
use Rattle.std.proofs.lemmas.List.{drop-drop, map-append, take-append-drop}
use Rattle.std.proofs.lemmas.List.Sums.{fold-append}
use Rattle.std.proofs.Math.ListN.{drop_of_length-le}
use Rattle.content.specs.Content.{Content}
use Rattle.broker_state.specs.State.{State, with_content}
use Rattle.broker_state.specs.Restoring.{CanRestore}
use Rattle.broker_state.specs.Producers.{with_next_id}
use Rattle.snapshots.specs.Heads.{SnapshotValue}
use Rattle.state_snapshots.specs.Restoring.{Announced, Kept, announced, said_of, HoldsItsImage, kept_bytes, with_kept, IsTaken, HasImageAt, HasRestored, RestoresAll, IsRestored}
use Rattle.state_snapshots.proofs.Known.{could_restore}

-- ---- lists

pub flat_append : {X Y : Type 0} (f : X → List Y) (xs ys : List X) → flat_map f (xs ++ ys) ≡ flat_map f xs ++ flat_map f ys
flat_append f [] ys = refl
flat_append {Y = Y} f (x ∷ xs) ys = ap (λ (zs : List Y). f x ++ zs) (flat_append f xs ys) ∙ sym (append_assoc (f x) (flat_map f xs) (flat_map f ys))

pub all_append : {X : Type 0} (P : X → Type 0) (xs ys : List X) → AllByRecursion P xs → AllByRecursion P ys → AllByRecursion P (xs ++ ys)
all_append P [] ys a b = b
all_append P (x ∷ xs) ys a b = (a.0, all_append P xs ys a.1 b)

pub both_known : {X : Type 0} (o : Option X) (P Q R : X → Type 0) → IfSome o P → IfSome o Q → ((x : X) → P x → Q x → R x) → IfSome o R
both_known None P Q R p q step = tt
both_known (Some x) P Q R p q step = step x p q

-- ---- what was put in place

-- nothing yet
pub none_restored : (seen : Option (List ℕ)) (all left : List Announced) (at : ℕ) (s : State) → left ≡ all → HasRestored seen all left at at s s
none_restored seen all left at s same = record {
  done = [];
  said = same;
  images = tt;
  taken = tt;
  file = always seen;
  state = refl;
}
  where
    always : (o : Option (List ℕ)) → IfSome o (λ file. drop at file ≡ kept_bytes [] ++ drop at file)
    always None = tt
    always (Some file) = refl

-- the images of two parts of a file that follow one another
files_joined : (from mid to : ℕ) (a b : List Kept) (file : List ℕ) → drop from file ≡ kept_bytes a ++ drop mid file → drop mid file ≡ kept_bytes b ++ drop to file → drop from file ≡ kept_bytes (a ++ b) ++ drop to file
files_joined from mid to a b file first then =
    first ∙ ap (λ (bytes : List ℕ). kept_bytes a ++ bytes) then ∙ sym (append_assoc (kept_bytes a) (kept_bytes b) (drop to file))
    ∙ ap (λ (bytes : List ℕ). bytes ++ drop to file) (sym (flat_append (λ p. p.image) a b))

states_joined : (a b : List Kept) (s m after : State) → m ≡ with_kept s a → after ≡ with_kept m b → after ≡ with_kept s (a ++ b)
states_joined a b s m after first then =
    then ∙ ap (λ (t : State). with_kept t b) first ∙ sym (fold-append (λ t p. with_content t p.topic p.partition p.content) s a b)

said_joined : (a b : List Kept) (part some left rest all : List Announced) → left ≡ part ++ rest → map said_of a ++ left ≡ all → map said_of b ++ some ≡ part → map said_of (a ++ b) ++ (some ++ rest) ≡ all
said_joined a b part some left rest all is first then =
    ap (λ (xs : List Announced). xs ++ (some ++ rest)) (map-append said_of a b) ∙ append_assoc (map said_of a) (map said_of b) (some ++ rest)
    ∙ ap (λ (xs : List Announced). map said_of a ++ xs) (sym (append_assoc (map said_of b) some rest) ∙ ap (λ (xs : List Announced). xs ++ rest) then)
    ∙ ap (λ (xs : List Announced). map said_of a ++ xs) (sym is) ∙ first

taken_before : (a b : List Kept) (s m : State) → m ≡ with_kept s a → AllByRecursion (IsTaken m) b → AllByRecursion (IsTaken s) b
taken_before a [] s m is taken = tt
taken_before a (p ∷ ps) s m is taken = (could_restore a s p.topic p.partition p.content (subst (λ (t : State). CanRestore t p.topic p.partition p.content) is taken.0), taken_before a ps s m is taken.1)

-- some more of what is left
pub more_restored : (seen : Option (List ℕ)) (all part some left rest : List Announced) (from mid to : ℕ) (s m after : State) → left ≡ part ++ rest → HasRestored seen all left from mid s m → HasRestored seen part some mid to m after
    → HasRestored seen all (some ++ rest) from to s after
more_restored seen all part some left rest from mid to s m after is first then = record {
  done = first.done ++ then.done;
  said = said_joined first.done then.done part some left rest all is first.said then.said;
  images = all_append HoldsItsImage first.done then.done first.images then.images;
  taken = all_append (IsTaken s) first.done then.done first.taken (taken_before first.done then.done s m first.state then.taken);
  file = both_known seen (λ file. drop from file ≡ kept_bytes first.done ++ drop mid file) (λ file. drop mid file ≡ kept_bytes then.done ++ drop to file) (λ file. drop from file ≡ kept_bytes (first.done ++ then.done) ++ drop to file)
      first.file then.file (λ file a b. files_joined from mid to first.done then.done file a b);
  state = states_joined first.done then.done s m after first.state then.state;
}

-- one image
pub pos_same : (m n : ℕ) → pos m ≡ pos n → m ≡ n
pos_same m n e = cc

read_there : (at count : ℕ) (image file : List ℕ) → image ≡ take count (drop at file) → drop at file ≡ image ++ [] ++ drop (at + count) file
read_there at count image file read =
    sym (take-append-drop count (drop at file)) ∙ (λ i. sym read i ++ drop-drop count at file i) ∙ ap (λ (bytes : List ℕ). bytes ++ drop (at + count) file) (sym (append-nil image))

pub one_restored : (seen : Option (List ℕ)) (topic : List ℕ) (p at count to : ℕ) (size : ℤ) (c : Content) (s after : State) → size ≡ pos count → to ≡ at + count → HasImageAt seen at (pos count) c → CanRestore s topic (pos p) c → after ≡ with_content s topic (pos p) c
    → RestoresAll seen (record { topic = topic; partition = pos p; size = size } ∷ []) at to s after
one_restored seen topic p at count to size c s after is is_to has can made =
    let image = has.0 in
    let sized : count ≡ length image = pos_same count (length image) has.1.sized in
    record {
      done = record { topic = topic; partition = pos p; image = image; content = c } ∷ [];
      said = λ i. record { topic = topic; partition = pos p; size = sym (is ∙ has.1.sized) i } ∷ [];
      images = (has.2, tt);
      taken = (can, tt);
      file = known (is_to ∙ ap (λ (n : ℕ). at + n) sized) seen has.1.read;
      state = made;
    }
  where
    known : to ≡ at + length has.0 → (o : Option (List ℕ)) → IfSome o (λ file. has.0 ≡ take (length has.0) (drop at file)) → IfSome o (λ file. drop at file ≡ kept_bytes (record { topic = topic; partition = pos p; image = has.0; content = c } ∷ []) ++ drop to file)
    known ends None read = tt
    known ends (Some file) read = read_there at (length has.0) has.0 file read ∙ ap (λ (n : ℕ). (has.0 ++ []) ++ drop n file) (sym ends)

-- ---- the whole

-- nothing stands behind the last image
pub restored_whole : (head : SnapshotValue) (seen : Option (List ℕ)) (at behind end : ℕ) (next : ℤ) (s m after : State) → IfSome seen (λ file. end ≡ length file) → end ≤ behind → RestoresAll seen (announced head.topics) at behind s m
    → next ≡ head.next_producer → m.config.first_producer ≤ℤ next → after ≡ with_next_id m next → IsRestored head seen at s after
restored_whole head seen at behind end next s m after ends all made is not_early gives = record {
  partitions = made.done;
  said = sym (append-nil (map said_of made.done)) ∙ made.said;
  images = made.images;
  taken = made.taken;
  file = both_known seen (λ file. end ≡ length file) (λ file. drop at file ≡ kept_bytes made.done ++ drop behind file) (λ file. drop at file ≡ kept_bytes made.done) ends made.file
      (λ file len parts. let over : length file ≤ behind = omega (arith, len, all) in
      parts ∙ ap (λ (bytes : List ℕ). kept_bytes made.done ++ bytes) (drop_of_length-le file over) ∙ append-nil (kept_bytes made.done));
  state = gives ∙ (λ i. with_next_id (made.state i) (is i));
  not_early = subst (λ (t : State). t.config.first_producer ≤ℤ head.next_producer) (sym gives) (subst (λ (z : ℤ). m.config.first_producer ≤ℤ z) is not_early);
}
