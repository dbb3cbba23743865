-- The parts of the responses to members, one after the other, are the encoding of their fields.
use Rattle.std.proofs.Common.{◌≡◌, ℕ, ℤ, pos, Bool, true, false, List, [], ◌∷◌, ◌++◌, length, Result, Ok, Err, refl, sym, ap, subst, ◌∙◌, append_assoc, append-nil}
use Rattle.std.specs.Prelude.{OnOk, map}
use Rattle.std.specs.List.{flat_map}
use Rattle.std.specs.declared.alloc.AllocError.{AllocError}
use Rattle.frame_fields.specs.Fields.{size16, size32, Fields, end, Value, be, field, elements, encoded}
use Rattle.frame_fields.specs.Frames.{framed}
use Rattle.frame_fields.specs.Types.{int16, int32, string, bytes, ◌⨾◌}
use Rattle.responses.specs.Responses.{response, count_bytes}
use Rattle.responses.proofs.ResponseParts.{elements_of}
use Rattle.member_frames.specs.MemberReplies.{with_throttle, unthrottled, throttle_bytes, JoinedHeadValue, JoinedMemberValue, JoinedValue, joined_member_fields, joined_member_value, join_group_response, join_group_value, refused_head, refused_join, joined_head_bytes, joined_member_bytes, sync_group_response, sync_group_value, given_head_bytes, code_response, code_value}

-- ---- the throttle time

pub throttled_is : (throttled : Bool) (d : Fields) (v : Value d) → encoded (with_throttle throttled d) (unthrottled throttled d v) ≡ throttle_bytes throttled ++ encoded d v
unfolding encoded
throttled_is true d v = refl
throttled_is false d v = refl

pub time_is : (throttled : Bool) → throttled ≡ true → (0 ∷ 0 ∷ 0 ∷ 0 ∷ []) ≡ throttle_bytes throttled
unfolding encoded
time_is throttled is = ap throttle_bytes (sym is)

-- ---- a response in three parts

-- the throttle time, and two parts that are the fields; the correlation id was passed on by value
module _ (throttled : Bool) (d : Fields) (v : Value d) (correlation sent : ℤ) (before middle after old new : List ℕ) (same : sent ≡ correlation) (first : before ≡ throttle_bytes throttled)
    (others : middle ++ after ≡ encoded d v) where
  fields_are : (before ++ middle) ++ after ≡ encoded (with_throttle throttled d) (unthrottled throttled d v)
  fields_are =
      append_assoc before middle after
      ∙ (λ i. first i ++ others i)
      ∙ sym (throttled_is throttled d v)

  pub replied : new ≡ old ++ framed (be size32 sent ++ ((before ++ middle) ++ after))
      → new ≡ old ++ response correlation (with_throttle throttled d) (unthrottled throttled d v)
  replied is = is ∙ (λ i. old ++ framed (be size32 (same i) ++ fields_are i))

pub code_is : (code sent : ℤ) (middle : List ℕ) → sent ≡ code → middle ≡ be size16 sent → middle ++ [] ≡ encoded code_response (code_value code)
unfolding encoded
code_is code sent middle same is = append-nil middle ∙ is ∙ (λ i. be size16 (same i) ++ [])

pub part_is : (code sent : ℤ) (head part : List ℕ) → sent ≡ code → head ≡ given_head_bytes sent (length part)
    → head ++ part ≡ encoded sync_group_response (sync_group_value (record { code = code; part = part }))
unfolding encoded
part_is code sent head part same is =
    (λ i. is i ++ part)
    ∙ (λ i. given_head_bytes (same i) (length part) ++ part)
    ∙ ap (λ (x : List ℕ). be size16 code ++ (be size32 (pos (length part)) ++ x)) (sym (append-nil part))

pub refusal_is : (code sent : ℤ) (middle : List ℕ) → sent ≡ code → middle ≡ joined_head_bytes (refused_head sent) 0
    → middle ++ [] ≡ encoded join_group_response (join_group_value (refused_join code))
unfolding encoded
refusal_is code sent middle same is = append-nil middle ∙ is ∙ (λ i. joined_head_bytes (refused_head (same i)) 0)

-- ---- the parts of a response to a JoinGroup

member_is : (m : JoinedMemberValue) → encoded joined_member_fields (joined_member_value m) ≡ joined_member_bytes m
member_is m = refl

-- bytes in five parts, and more behind them
behind_five : (a b c d e more : List ℕ) → a ++ (b ++ (c ++ (d ++ (e ++ more)))) ≡ (a ++ (b ++ (c ++ (d ++ e)))) ++ more
behind_five a b c d e more =
    (λ i. a ++ (b ++ (c ++ sym (append_assoc d e more) i)))
    ∙ (λ i. a ++ (b ++ sym (append_assoc c (d ++ e) more) i))
    ∙ (λ i. a ++ sym (append_assoc b (c ++ (d ++ e)) more) i)
    ∙ sym (append_assoc a (b ++ (c ++ (d ++ e))) more)

pub join_parts : (r : JoinedValue) → encoded join_group_response (join_group_value r) ≡ joined_head_bytes r.head (length r.members) ++ flat_map joined_member_bytes r.members
unfolding encoded
join_parts r =
    let h = r.head in
    let code = be size16 h.code ++ be size32 h.generation in
    let protocol = field string h.protocol in
    let leader = field string h.leader in
    let member = field string h.member in
    let count = be size32 (pos (length r.members)) in
    let more = flat_map joined_member_bytes r.members in
    (λ i. code ++ (protocol ++ (leader ++ (member ++ (append-nil (elements (encoded joined_member_fields) (map joined_member_value r.members)) i)))))
    ∙ (λ i. code ++ (protocol ++ (leader ++ (member ++ elements_of (encoded joined_member_fields) joined_member_value joined_member_bytes member_is r.members i))))
    ∙ behind_five code protocol leader member count more

-- ---- parts that were appended one after the other

-- two parts, where the second went well
pub put_two : (r : Result (Unit {0}) AllocError) (old first new a b : List ℕ) → first ≡ old ++ a → OnOk r (new ≡ first ++ b) → OnOk r (new ≡ old ++ (a ++ b))
put_two (Ok x) old first new a b one two = two ∙ (λ i. one i ++ b) ∙ append_assoc old a b
put_two (Err e) old first new a b one two = tt

member_of_two : (m : JoinedMemberValue) → field string m.id ++ field bytes m.metadata ≡ joined_member_bytes m
unfolding encoded
member_of_two m = ap (λ (x : List ℕ). field string m.id ++ x) (sym (append-nil (field bytes m.metadata)))

pub put_member : (r : Result (Unit {0}) AllocError) (m : JoinedMemberValue) (old first new : List ℕ) → first ≡ old ++ field string m.id → OnOk r (new ≡ first ++ field bytes m.metadata)
    → OnOk r (new ≡ old ++ joined_member_bytes m)
put_member r m old first new one two =
    subst (λ (x : List ℕ). OnOk r (new ≡ old ++ x)) (member_of_two m) (put_two r old first new (field string m.id) (field bytes m.metadata) one two)

pub count_is : (count : ℕ) → count_bytes count ≡ be size32 (pos count)
unfolding encoded
count_is count = refl

behind_four : (old a b c d e : List ℕ) → ((((old ++ a) ++ b) ++ c) ++ d) ++ e ≡ old ++ (a ++ (b ++ (c ++ (d ++ e))))
behind_four old a b c d e =
    append_assoc (((old ++ a) ++ b) ++ c) d e
    ∙ append_assoc ((old ++ a) ++ b) c (d ++ e)
    ∙ append_assoc (old ++ a) b (c ++ (d ++ e))
    ∙ append_assoc old a (b ++ (c ++ (d ++ e)))

head_of_five : (h : JoinedHeadValue) (count : ℕ)
    → encoded (int16 ⨾ int32 ⨾ end) (h.code, (h.generation, tt)) ++ (field string h.protocol ++ (field string h.leader ++ (field string h.member ++ be size32 (pos count))))
    ≡ joined_head_bytes h count
unfolding encoded
head_of_five h count = refl

-- five parts, of which the last went well, are what stands before the members
pub put_head : (r : Result (Unit {0}) AllocError) (h : JoinedHeadValue) (sent_code sent_generation : ℤ) (count : ℕ) (old first second third fourth new front last : List ℕ) → sent_code ≡ h.code → sent_generation ≡ h.generation
    → front ≡ encoded (int16 ⨾ int32 ⨾ end) (sent_code, (sent_generation, tt)) → last ≡ be size32 (pos count)
    → first ≡ old ++ front → second ≡ first ++ field string h.protocol → third ≡ second ++ field string h.leader → fourth ≡ third ++ field string h.member
    → OnOk r (new ≡ fourth ++ last) → OnOk r (new ≡ old ++ joined_head_bytes h count)
put_head (Ok x) h sent_code sent_generation count old first second third fourth new front last same_code same_generation front_is last_is one two three four five =
    let all_front : front ≡ encoded (int16 ⨾ int32 ⨾ end) (h.code, (h.generation, tt)) = front_is ∙ (λ i. encoded (int16 ⨾ int32 ⨾ end) (same_code i, (same_generation i, tt))) in
    five
    ∙ (λ i. four i ++ last)
    ∙ (λ i. (three i ++ field string h.member) ++ last)
    ∙ (λ i. ((two i ++ field string h.leader) ++ field string h.member) ++ last)
    ∙ (λ i. (((one i ++ field string h.protocol) ++ field string h.leader) ++ field string h.member) ++ last)
    ∙ behind_four old front (field string h.protocol) (field string h.leader) (field string h.member) last
    ∙ (λ i. old ++ (all_front i ++ (field string h.protocol ++ (field string h.leader ++ (field string h.member ++ last_is i)))))
    ∙ (λ i. old ++ head_of_five h count i)
put_head (Err e) h sent_code sent_generation count old first second third fourth new front last same_code same_generation front_is last_is one two three four five = tt
