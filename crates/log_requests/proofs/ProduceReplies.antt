-- The answers to a Produce request make one of the replies that its plan allows.
use Rattle.std.proofs.Common.{◌≡◌, ℕ, Bool, true, false, cond, List, [], ◌++◌, length, take, Some, None, of_z, to_z, w16, FitsSigned, refl, ap, sym, subst, ◌∙◌, append_assoc, append-nil, arith}
use Rattle.std.specs.Prelude.{ℤ, pos, Option}
use Rattle.std.specs.List.{flat_map}
use Rattle.std.specs.Option.{option_map}
use Rattle.std.specs.Ordering.{int_eq}
use Rattle.std.proofs.lemmas.Int.{ints, to_z-of_z}
use Rattle.std.proofs.Math.Seq.{take-append_seam}
use Rattle.request_frames.specs.declared.produce.partition.ProducePartition.{ProducePartition}
use Rattle.responses.specs.declared.produce.partition.ProducedPartition.{ProducedPartition}
use Rattle.frame_fields.specs.Fields.{Value, size32, be, elements, encoded}
use Rattle.frame_fields.specs.Reading.{nothing}
use Rattle.frame_fields.specs.Types.{TopicOf}
use Rattle.request_frames.specs.Produce.{ProduceValue, produce_partition, produce_partition_value}
use Rattle.frame_fields.specs.Frames.{framed}
use Rattle.responses.specs.Responses.{response, topic_bytes}
use Rattle.responses.specs.Produce.{produced_bytes, produce_tail, produce_response, produce_value}
use Rattle.responses.proofs.ProduceParts.{produce_parts}
use Rattle.answering.specs.declared.memory.Memory.{Memory}
use Rattle.answering.specs.Telling.{TellsNext}
use Rattle.broker_state.specs.State.{State}
use Rattle.log_requests.specs.Produce.{produce_work, produce_plan}

pub produce_tells : (q : ProduceValue) (before : State × Option Memory) (name : List ℕ) (v : Value produce_partition) (r : ProducedPartition) (after : State × Option Memory)
    → (e : ProducePartition) × ((e.index, (option_map (λ bytes. bytes.now) e.records, nothing)) ≡ v)
    × TellsNext (produce_work before.0 q name (produce_partition_value (e.index, (option_map (λ bytes. bytes.now) e.records, nothing)))) before r after
    → TellsNext (produce_work before.0 q name (produce_partition_value v)) before r after
produce_tells q before name v r after said = subst (λ w. TellsNext (produce_work before.0 q name (produce_partition_value w)) before r after) said.1 said.2

parts : (count topics tail : List ℕ) → (count ++ topics) ++ tail ≡ (count ++ []) ++ (topics ++ tail)
parts count topics tail = simp (append_assoc, append-nil {A = ℕ})

whole : (n : ℤ) (ts : List (TopicOf ProducedPartition)) → framed (be size32 n ++ (elements (topic_bytes produced_bytes) ts ++ produce_tail)) ≡ response n produce_response (produce_value ts)
unfolding encoded
whole n ts = ap (λ fields. framed (be size32 n ++ fields)) (parts (be size32 (pos (length ts))) (flat_map (topic_bytes produced_bytes) ts) produce_tail ∙ sym (produce_parts ts))

same_number : (x : ℤ) → int_eq x (pos 0) ≡ true → x ≡ pos 0
same_number x e = grind (arith, ints, e)

not_silent : (acks : ℤ) (b : Bool) → int_eq acks (pos 0) ≡ b → (of_z w16 acks ≡ 0 → ⊥) → b ≡ false
not_silent acks true e other = absurd (other (ap (of_z w16) (same_number acks e)))
not_silent acks false e other = refl

pub produce_sends : (s : State) (q : ProduceValue) (n : ℤ) → (of_z w16 q.acks ≡ 0 → ⊥) → (tail : List ℕ) → tail ≡ produce_tail → (ts : List (TopicOf ProducedPartition))
    → Some (framed (be size32 n ++ (elements (topic_bytes produced_bytes) ts ++ tail))) ≡ (produce_plan s n q).response ts
produce_sends s q n acks tail last ts =
    (λ i. Some (framed (be size32 n ++ (elements (topic_bytes produced_bytes) ts ++ last i)))) ∙ ap Some (whole n ts) ∙ sym (ap (λ b. cond b None (Some (response n produce_response (produce_value ts)))) (not_silent q.acks (int_eq q.acks (pos 0)) refl acks))

is_silent : (acks : ℤ) → FitsSigned w16 acks → of_z w16 acks ≡ 0 → int_eq acks (pos 0) ≡ true
is_silent acks fits is = ap (λ z. int_eq z (pos 0)) (sym (to_z-of_z w16 acks fits) ∙ ap (to_z w16) is)

pub produce_sends_nothing : (s : State) (q : ProduceValue) (n : ℤ) → FitsSigned w16 q.acks → of_z w16 q.acks ≡ 0 → (ts : List (TopicOf ProducedPartition))
    → None ≡ (produce_plan s n q).response ts
produce_sends_nothing s q n fits acks ts =
    sym (ap (λ b. cond b None (Some (response n produce_response (produce_value ts)))) (is_silent q.acks fits acks))

-- the response is taken back
pub cut_back : (out held mid cut more : List ℕ) (start : ℕ) → held ≡ out → start ≡ length out → mid ≡ held ++ more → cut ≡ take start mid → cut ≡ out ++ []
cut_back out held mid cut more start kept at written is =
    is ∙ (λ i. take (at i) (written i)) ∙ (λ i. take (length out) (kept i ++ more)) ∙ take-append_seam out more ∙ sym (append-nil out)
