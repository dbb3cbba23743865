-- Batches that come one after the other, the bytes that they came in, and the copy that they go to.
use Rattle.std.proofs.Common.{◌≡◌, ℕ, ◌<◌, List, [], ◌∷◌, ◌++◌, length, drop, Option, Some, None, refl, sym, ap, subst, ◌∙◌, append_assoc, arith}
use Rattle.std.specs.Io.KnownBytes.{Consumes, IsAtEnd}
use Rattle.std.proofs.KnownBytes.{Consumes-trans}
use Rattle.std.proofs.Math.Seq.{drop-append_seam}
use Rattle.std.proofs.lemmas.List.{append-nil, length-append}
use Rattle.std.proofs.lemmas.List.Concat.{flat_map-append}
use Rattle.batch_codec.specs.Values.{BatchValue}
use Rattle.batch_codec.specs.Grammar.{batch_encoding}
use Rattle.content.specs.Content.{Content, empty, add}
use Rattle.content.specs.Deliveries.{delivered, AreAccepted}
use Rattle.streams.specs.State.{SourceState, ReadsMore, ReadsEnd}
use Rattle.subcommands.specs.Input.{TakesBatches, HasTaken, ReadsCopy, DeliversNext}
use Rattle.subcommands.specs.Tables.{stream, ReadsAll}

-- ---- deliveries, one list after the other

pub delivered_more : (c : Content) (bs cs : List BatchValue) → delivered c (bs ++ cs) ≡ delivered (delivered c bs) cs
delivered_more c [] cs = refl
delivered_more c (b ∷ bs) cs = delivered_more (add c b) bs cs

pub accepted_more : (c : Content) (bs cs : List BatchValue) → AreAccepted c bs → AreAccepted (delivered c bs) cs → AreAccepted c (bs ++ cs)
accepted_more c [] cs p q = q
accepted_more c (b ∷ bs) cs p q = (p.0, accepted_more (add c b) bs cs p.1 q)

pub streams : (bs cs : List BatchValue) (rest : List ℕ) → stream bs ++ (stream cs ++ rest) ≡ stream (bs ++ cs) ++ rest
streams bs cs rest = sym (append_assoc (stream bs) (stream cs) rest) ∙ ap (λ (t : List ℕ). t ++ rest) (sym (flat_map-append batch_encoding bs cs))

-- ---- batches that were taken

pub takes_none : (waiting : List ℕ) (c : Content) (count : ℕ) → TakesBatches waiting waiting c c count count
takes_none waiting c count = record { batches = []; encoded = refl; are_accepted = tt; delivers = refl; counts = omega arith }

pub takes_then : (v w x : List ℕ) (k l m : Content) (i j n : ℕ) → TakesBatches v w k l i j → TakesBatches w x l m j n → TakesBatches v x k m i n
takes_then v w x k l m i j n s t = record {
  batches = s.batches ++ t.batches;
  encoded = s.encoded ∙ ap (λ (u : List ℕ). stream s.batches ++ u) t.encoded ∙ streams s.batches t.batches x;
  are_accepted = accepted_more k s.batches t.batches s.are_accepted (subst (λ (u : Content). AreAccepted u t.batches) s.delivers t.are_accepted);
  delivers = t.delivers ∙ ap (λ (u : Content). delivered u t.batches) s.delivers ∙ sym (delivered_more k s.batches t.batches);
  counts = omega (arith, s.counts, t.counts, length-append s.batches t.batches);
}

-- the batch that was delivered stood before the bytes that wait then
front_parts : (waiting waiting' bytes : List ℕ) (size : ℕ) (c c' : Content) (count count' : ℕ) → bytes ≡ waiting → waiting' ≡ drop size waiting → (next : DeliversNext bytes (Some size) c c' count count') → waiting ≡ batch_encoding next.0 ++ waiting'
front_parts waiting waiting' bytes size c c' count count' same dropped next =
    let b = next.0 in
    let rest = next.1 in
    let parts : waiting ≡ batch_encoding b ++ rest = sym same ∙ next.2 in
    let left : waiting' ≡ rest = dropped ∙ ap (λ (k : ℕ). drop k waiting) next.3 ∙ ap (λ (t : List ℕ). drop (length (batch_encoding b)) t) parts ∙ drop-append_seam (batch_encoding b) rest in
    parts ∙ ap (λ (t : List ℕ). batch_encoding b ++ t) (sym left)

pub takes_front : (waiting waiting' bytes : List ℕ) (size : ℕ) (c c' : Content) (count count' : ℕ) → bytes ≡ waiting → waiting' ≡ drop size waiting → DeliversNext bytes (Some size) c c' count count' → TakesBatches waiting waiting' c c' count count'
takes_front waiting waiting' bytes size c c' count count' same dropped next = record {
  batches = next.0 ∷ [];
  encoded = front_parts waiting waiting' bytes size c c' count count' same dropped next ∙ ap (λ (t : List ℕ). t ++ waiting') (sym (append-nil (batch_encoding next.0)));
  are_accepted = (next.4, tt);
  delivers = next.5;
  counts = next.6;
}

encoded_some : (b : BatchValue) → 0 < length (batch_encoding b)
unfolding batch_encoding
encoded_some b = omega arith

-- a batch is some bytes, so fewer wait behind it
pub front_left : (waiting waiting' bytes : List ℕ) (size : ℕ) (c c' : Content) (count count' : ℕ) → bytes ≡ waiting → waiting' ≡ drop size waiting → DeliversNext bytes (Some size) c c' count count' → length waiting' < length waiting
front_left waiting waiting' bytes size c c' count count' same dropped next =
    let parts = front_parts waiting waiting' bytes size c c' count count' same dropped next in
    omega (arith, ap (λ (t : List ℕ). length t) parts, encoded_some next.0, length-append (batch_encoding next.0) waiting')

-- ---- the reader's bytes

ends : (a c : Option (List ℕ)) (x : List ℕ) → Consumes a c x → IsAtEnd c → ReadsAll a c x
ends None c x p e = tt
ends (Some bs) None x p e = absurd p
ends (Some bs) (Some cs) x p e = (p ∙ ap (λ (t : List ℕ). x ++ t) e ∙ append-nil x, e)

pub reads_all : (a b c : Option (List ℕ)) (x : List ℕ) → Consumes a b x → Consumes b c [] → IsAtEnd c → ReadsAll a c x
reads_all a b c x p q e = ends a c x (subst (Consumes a c) (append-nil x) (Consumes-trans a b c x [] p q)) e

-- ---- what was read so far: the batches that were delivered, and the bytes that wait

consumes_none : (a : Option (List ℕ)) → Consumes a a []
consumes_none None = tt
consumes_none (Some bytes) = refl

pub nothing_taken : (a : Option (List ℕ)) (c : Content) (waiting : List ℕ) → c ≡ empty → waiting ≡ [] → HasTaken a a c 0 waiting
nothing_taken a c waiting same none = record { batches = []; are_accepted = tt; delivers = same; counts = refl; consumes = subst (λ (t : List ℕ). Consumes a a t) (sym none) (consumes_none a) }

pub batches_taken : (a b : Option (List ℕ)) (waiting waiting' : List ℕ) (c c' : Content) (count count' : ℕ) → HasTaken a b c count waiting → TakesBatches waiting waiting' c c' count count' → HasTaken a b c' count' waiting'
batches_taken a b waiting waiting' c c' count count' read t = record {
  batches = read.batches ++ t.batches;
  are_accepted = accepted_more empty read.batches t.batches read.are_accepted (subst (λ (u : Content). AreAccepted u t.batches) read.delivers t.are_accepted);
  delivers = t.delivers ∙ ap (λ (u : Content). delivered u t.batches) read.delivers ∙ sym (delivered_more empty read.batches t.batches);
  counts = omega (arith, read.counts, t.counts, length-append read.batches t.batches);
  consumes = subst (Consumes a b) (ap (λ (u : List ℕ). stream read.batches ++ u) t.encoded ∙ streams read.batches t.batches waiting') read.consumes;
}

pub piece_taken : (a : Option (List ℕ)) (source source' : SourceState) (waiting waiting' : List ℕ) (c : Content) (count : ℕ) → HasTaken a source.left c count waiting → ReadsMore source source' waiting waiting' → HasTaken a source'.left c count waiting'
piece_taken a source source' waiting waiting' c count read more =
    let piece = more.0.1.piece in
    let parts : (stream read.batches ++ waiting) ++ piece ≡ stream read.batches ++ waiting' = append_assoc (stream read.batches) waiting piece ∙ ap (λ (x : List ℕ). stream read.batches ++ x) (sym more.0.1.appends) in
    record {
      batches = read.batches;
      are_accepted = read.are_accepted;
      delivers = read.delivers;
      counts = read.counts;
      consumes = subst (Consumes a source'.left) parts (Consumes-trans a source.left source'.left (stream read.batches ++ waiting) piece read.consumes more.0.1.consumes);
    }

pub all_taken : (a : Option (List ℕ)) (source source' : SourceState) (waiting waiting' : List ℕ) (c : Content) (count : ℕ) → HasTaken a source.left c count waiting → ReadsEnd source source' waiting waiting' → waiting' ≡ [] → ReadsCopy a source'.left c
all_taken a source source' waiting waiting' c count read end none =
    let nothing : waiting ≡ [] = sym end.2 ∙ none in
    let parts : stream read.batches ++ waiting ≡ stream read.batches = ap (λ (x : List ℕ). stream read.batches ++ x) nothing ∙ append-nil (stream read.batches) in
    record {
      batches = read.batches;
      reads = (read.are_accepted, reads_all a source.left source'.left (stream read.batches) (subst (Consumes a source.left) parts read.consumes) end.0 end.1);
      delivers = read.delivers;
    }
