use Rattle.std.proofs.Common.{rules, ◌≡◌, ◌∙◌, ◌++◌, [], ◌∷◌, ℕ, List, length, append_assoc, append-nil, sym, ap}
use Rattle.std.specs.Prelude.{ℤ}
use Rattle.std.specs.Int.{w32}
use Rattle.std.proofs.lemmas.Int.{to_z-of_z}
use Rattle.frame_fields.specs.Fields.{size32, be}
use Rattle.frame_fields.specs.Frames.{framed}
use Rattle.responses.specs.Responses.{response_head, topic_head}
use Rattle.responses.specs.Produce.{produce_head, produced_bytes, produce_tail}
use Rattle.request_tests.proofs.tests.one.put_one.Goals as goal

-- the parts, as the law names them
parts : (old head count topic partition tail o0 o1 o2 o3 o4 o5 : List ℕ) → o0 ≡ old → o1 ≡ o0 ++ head → o2 ≡ o1 ++ count → o3 ≡ o2 ++ topic → o4 ≡ o3 ++ partition → o5 ≡ o4 ++ tail
    → o5 ≡ old ++ head ++ (count ++ (((topic ++ (partition ++ [])) ++ []) ++ tail))
parts old head count topic partition tail o0 o1 o2 o3 o4 o5 e0 e1 e2 e3 e4 e5 = rw (e5, e4, e3, e2, e1, e0) (simp (append_assoc, append-nil))

-- an array that was appended, by its bytes
as_array : (old new array bytes : List ℕ) → new ≡ old ++ array → array ≡ bytes → new ≡ old ++ bytes
as_array old new array bytes e is = e ∙ ap (λ (x : List ℕ). old ++ x) is

pub returns-clause-appends_response : goal.returns-clause-appends_response
returns-clause-appends_response g c =
    let old = c.args.out.now.items in
    let name = c.args.name.now in
    let partition = c.args.partition in
    let fields = produce_head 1 ++ (((topic_head name 1 ++ (produced_bytes partition ++ [])) ++ []) ++ produce_tail) in
    let start : length old ≡ c.len-start.result = search rules in
    let head = c.in-Ok.ensures.appends ∙ ap (λ (z : ℤ). c.reserve.new.self.items ++ response_head z) (to_z-of_z w32 c.args.correlation c.ranges.correlation) in
    c.finish_response.ensures.finishes old fields c.args.correlation
    (parts old _ _ _ _ _ _ _ _ _ _ _ c.in_ok-reserve.ensures.items head (as_array _ _ _ _ c.in-Ok-append_fixed.ensures.appends c.count_bytes.ensures) c.in-Ok-begin_topic.ensures.appends
    (as_array _ _ _ _ c.in-Ok-append_fixed-2.ensures.appends c.produced_bytes.ensures) (as_array _ _ _ _ c.in-Ok-append_fixed-3.ensures.appends c.produce_tail.ensures))
    start
    ∙ ap (λ (x : List ℕ). old ++ framed (be size32 c.args.correlation ++ x)) (sym (c.produce_parts.ensures (record { name = name; entries = partition ∷ [] } ∷ [])))
