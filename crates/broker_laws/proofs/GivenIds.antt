-- The ids that replies give are numbers in a row: only a reply that gives the next id changes what comes next, by one.
use Rattle.std.proofs.Common.{◌≡◌, inl, inr, ◌⊎◌, ℕ, ℤ, pos, ◌+ℤ◌, Bool, false, cond, List, [], ◌∷◌, ◌++◌, length, Option, Some, None, refl, sym, ap, subst, ◌∙◌, arith}
use Rattle.std.specs.Prelude.{FitsSigned}
use Rattle.std.specs.Ordering.{int_eq}
use Rattle.std.specs.Int.{w16, w64}
use Rattle.std.proofs.lemmas.Int.{ints}
use Rattle.frame_fields.specs.Fields.{size16, size64, be, encoded}
use Rattle.frame_fields.proofs.Numbers.{number_again}
use Rattle.request_frames.specs.Requests.BodyValue.{init_producer_id}
use Rattle.request_frames.specs.Requests.{BodyValue, RequestValue}
use Rattle.responses.specs.declared.init_producer_id.InitProducerIdAnswer.{InitProducerIdAnswer}
use Rattle.answering.specs.declared.codes.ErrorCode.{ErrorCode}
use Rattle.answering.specs.Codes.{no_error, code_number}
use Rattle.answering.specs.Work.{MayAnswer}
use Rattle.answering.specs.Plans.{AnswersAll}
use Rattle.answering.specs.Once.{RepliesOnce}
use Rattle.answering.proofs.AnswersOfAll.{in_any_case}
use Rattle.broker_state.specs.State.{ConfigValue, State, new_state}
use Rattle.broker_state.specs.Sound.{IsSoundConfig}
use Rattle.setup_requests.specs.InitProducerId.{id_answer, init_producer_id_work, init_producer_id_sent}
use Rattle.broker_node.specs.Kinds.{kind}
use Rattle.broker_node.specs.Replies.{RepliesTo, MayReply}
use Rattle.broker_node.proofs.KeptStates.{worked, way_keeps}
use Rattle.broker_laws.specs.ProducerIds.{code_in, id_in, ids_in, ids_given, in_a_row, AreInARow}
use Rattle.broker_laws.proofs.Works.{no_error_fits, code_fits}
use Rattle.broker_laws.proofs.InitProducerIdFits.{id_left, next_fits}
use Rattle.broker_laws.proofs.ChangedPlaces.{asked_id, asks_id, next_kept}

-- ---- what a reply gives

-- no id and the same next one, or the next id, and then the number after it is the next one
abbrev Steps : State → List ℤ → State → Type 0
Steps s ids after =
    (ids ≡ []) × (after.next_producer ≡ s.next_producer)
    ⊎ (ids ≡ s.next_producer ∷ []) × (after.next_producer ≡ s.next_producer +ℤ pos 1) × FitsSigned w64 after.next_producer

-- the same of an answer to InitProducerId
abbrev Answers : State → InitProducerIdAnswer → State → Type 0
Answers s r after =
    ((code : ErrorCode) × (r.code ≡ code_number code)) × (after.next_producer ≡ s.next_producer)
    ⊎ (r ≡ id_answer s.next_producer) × (after.next_producer ≡ s.next_producer +ℤ pos 1) × FitsSigned w64 after.next_producer

is_fault : (code : ErrorCode) → int_eq (code_number code) no_error ≡ false
is_fault code = grind arith

-- ---- what is read of the bytes

abbrev shown : (code id : ℤ) → List ℤ
shown code id = cond (int_eq code no_error) (id ∷ []) []

code_read : (n : ℤ) (r : InitProducerIdAnswer) → FitsSigned w16 r.code → code_in (init_producer_id_sent n r) ≡ r.code
unfolding encoded
code_read n r fits = number_again size16 r.code (be size64 r.producer_id ++ (be size16 r.epoch ++ [])) fits

id_read : (n : ℤ) (r : InitProducerIdAnswer) → FitsSigned w64 r.producer_id → id_in (init_producer_id_sent n r) ≡ r.producer_id
unfolding encoded
id_read n r fits = number_again size64 r.producer_id (be size16 r.epoch ++ []) fits

fault_shows : (n : ℤ) (r : InitProducerIdAnswer) (code : ErrorCode) → r.code ≡ code_number code → shown (code_in (init_producer_id_sent n r)) (id_in (init_producer_id_sent n r)) ≡ []
fault_shows n r code is =
    let fits : FitsSigned w16 r.code = subst (FitsSigned w16) (sym is) (code_fits code) in
    ap (λ (b : Bool). cond b (id_in (init_producer_id_sent n r) ∷ []) []) (ap (λ (z : ℤ). int_eq z no_error) (code_read n r fits ∙ is) ∙ is_fault code)

id_shows : (n id : ℤ) → FitsSigned w64 id → shown (code_in (init_producer_id_sent n (id_answer id))) (id_in (init_producer_id_sent n (id_answer id))) ≡ id ∷ []
id_shows n id fits =
    (λ i. shown (code_read n (id_answer id) no_error_fits i) (id_read n (id_answer id) fits i))

id_step : (s : State) (n : ℤ) (id : Option (List ℕ)) (out : Option (List ℕ)) (after : State) → FitsSigned w64 s.next_producer
    → RepliesOnce (λ R S w. MayAnswer w) (init_producer_id_sent n) (init_producer_id_work s id) s out after → Steps s (ids_in (init_producer_id id) out) after
id_step s n id out after fits replies =
    subst (λ (o : Option (List ℕ)). Steps s (ids_in (init_producer_id id) o) after) (sym replies.sends)
    (by replies.result (worked (λ r m. Answers s r m) (init_producer_id_work s id) s replies.result after (λ code. inl ((code, refl), refl))
    (λ none. inr (refl, refl, next_fits s.next_producer fits (id_left s id none))) replies.answers))
  where
    by : (r : InitProducerIdAnswer) → Answers s r after → Steps s (shown (code_in (init_producer_id_sent n r)) (id_in (init_producer_id_sent n r))) after
    by r (inl (fault, same)) = inl (fault_shows n r fault.0 fault.1, same)
    by r (inr (is, more, still)) =
        inr (ap (λ (a : InitProducerIdAnswer). shown (code_in (init_producer_id_sent n a)) (id_in (init_producer_id_sent n a))) is ∙ id_shows n s.next_producer fits, more, still)

-- ---- all requests

-- no other request's reply is one that gives an id
no_ids : (body : BodyValue) (out : Option (List ℕ)) → asked_id body ≡ None → ids_in body out ≡ []
no_ids body out none = grind (arith, none)

reply_steps : (s : State) (n : ℤ) (body : BodyValue) (out : Option (List ℕ)) (after : State) → FitsSigned w64 s.next_producer → RepliesTo in_any_case s n body out after → Steps s (ids_in body out) after
reply_steps s n body out after fits = by (asked_id body) refl
  where
    by : (o : Option (Option (List ℕ))) → asked_id body ≡ o → RepliesTo in_any_case s n body out after → Steps s (ids_in body out) after
    by None e replies = inl (no_ids body out e, way_keeps (λ m. m.next_producer ≡ s.next_producer) ((kind body).way s n) out after (next_kept s n body e) replies)
    by (Some id) e replies =
        let is = asks_id body id e in
        subst (λ (b : BodyValue). Steps s (ids_in b out) after) (sym is)
        (id_step s n id out after fits (subst (λ (b : BodyValue). RepliesTo in_any_case s n b out after) is replies))

-- ---- lists of requests

none_more : (first next : ℤ) → next ≡ first → AreInARow first [] next
none_more first next same = record { in_order = refl; next_one = omega (arith, ints, same) }

one_more : (first m next : ℤ) (ids : List ℤ) → m ≡ first +ℤ pos 1 → AreInARow m ids next → AreInARow first (first ∷ ids) next
one_more first m next ids is row =
    let last = row.next_one in
    record {
      in_order = ap (λ (more : List ℤ). first ∷ more) (row.in_order ∙ ap (λ (z : ℤ). in_a_row z (length ids)) is);
      next_one = omega (arith, ints, is, last);
    }

stepped : (first : ℤ) (s m : State) (ids more : List ℤ) (next : ℤ) → s.next_producer ≡ first → Steps s ids m → AreInARow m.next_producer more next → AreInARow first (ids ++ more) next
stepped first s m ids more next is (inl (none, same)) row =
    subst (λ (xs : List ℤ). AreInARow first (xs ++ more) next) (sym none) (subst (λ (z : ℤ). AreInARow z more next) (same ∙ is) row)
stepped first s m ids more next is (inr (one, next_one, fits)) row =
    subst (λ (xs : List ℤ). AreInARow first (xs ++ more) next) (sym one ∙ refl)
    (subst (λ (z : ℤ). AreInARow first (z ∷ more) next) (sym is) (one_more first m.next_producer next more (next_one ∙ ap (λ (z : ℤ). z +ℤ pos 1) is) row))

still_fits : (s m : State) (ids : List ℤ) → FitsSigned w64 s.next_producer → Steps s ids m → FitsSigned w64 m.next_producer
still_fits s m ids fits (inl (none, same)) = subst (FitsSigned w64) (sym same) fits
still_fits s m ids fits (inr (one, next_one, more)) = more

pub all_in_a_row : (s : State) (qs : List RequestValue) (outs : List (Option (List ℕ))) (after : State) → FitsSigned w64 s.next_producer → AnswersAll (λ s q out m. MayReply s q out m) s qs outs after
    → AreInARow s.next_producer (ids_given qs outs) after.next_producer
all_in_a_row s [] [] after fits all = none_more s.next_producer after.next_producer (sym (ap (λ (t : State). t.next_producer) all))
all_in_a_row s [] (out ∷ outs) after fits all = absurd all
all_in_a_row s (q ∷ qs) [] after fits all = absurd all
all_in_a_row s (q ∷ qs) (out ∷ outs) after fits all =
    let m = all.0 in
    let step = reply_steps s q.correlation q.body out m fits all.1 in
    stepped s.next_producer s m (ids_in q.body out) (ids_given qs outs) after.next_producer refl step (all_in_a_row m qs outs after (still_fits s m (ids_in q.body out) fits step) all.2)

pub ids_in_a_row : (g : ConfigValue) (qs : List RequestValue) (outs : List (Option (List ℕ))) (after : State) → IsSoundConfig g → AnswersAll (λ s q out m. MayReply s q out m) (new_state g) qs outs after
    → AreInARow g.first_producer (ids_given qs outs) after.next_producer
ids_in_a_row g qs outs after sound all = all_in_a_row (new_state g) qs outs after sound.first_producer all
