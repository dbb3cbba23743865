use Rattle.std.proofs.Common.{arith, ◌≡◌, ◌≤◌, ◌<◌, ◌∙◌, length, take, drop, Err, rules, FitsSigned}
use Rattle.std.specs.Int.{w32}
use Rattle.frame_fields.specs.Fields.{size32, number_at}
use Rattle.request_frames.proofs.FetchNumbers.{topics_at, number_in, numbers_fault, topics_fault, topics_read}
use Rattle.request_frames.proofs.fetch.request.fetch_at.Goals as goal

pub returns-in_default : goal.returns-in_default
returns-in_default c =
    let short : length c.args.bytes.now < 17 = search rules in
    numbers_fault c.args.bytes.now short

pub returns-in_err-topics : goal.returns-in_err-topics
returns-in_err-topics c =
    let long : 17 ≤ length c.args.bytes.now = search rules in
    let later : c.in-Some.rest.now ≡ drop 17 c.args.bytes.now = search rules in
    let fault : topics_at c.in-Some.rest.now ≡ Err c.in_err-topics.field-0.0 = search rules in
    let body = topics_fault c.args.bytes.now c.in-Some.rest.now c.in_err-topics.field-0.0 long later fault in
    search (rules, body)

pub returns : goal.returns
returns c =
    let long : 17 ≤ length c.args.bytes.now = search rules in
    let later : c.in-Some.rest.now ≡ drop 17 c.args.bytes.now = search rules in
    let chunk : c.in-Some.fixed.now ≡ take 17 c.args.bytes.now = search rules in
    let wait : c.from_be_bytes-max_wait_ms.result ≡ number_at size32 (drop 4 c.args.bytes.now) = c.from_be_bytes-max_wait_ms.ensures ∙ number_in c.args.bytes.now c.in-Some.fixed.now 4 (omega arith) chunk in
    let least : c.from_be_bytes-min_bytes.result ≡ number_at size32 (drop 8 c.args.bytes.now) = c.from_be_bytes-min_bytes.ensures ∙ number_in c.args.bytes.now c.in-Some.fixed.now 8 (omega arith) chunk in
    let most : c.from_be_bytes-max_bytes.result ≡ number_at size32 (drop 12 c.args.bytes.now) = c.from_be_bytes-max_bytes.ensures ∙ number_in c.args.bytes.now c.in-Some.fixed.now 12 (omega arith) chunk in
    let wait_fits : FitsSigned w32 c.from_be_bytes-max_wait_ms.result = search rules in
    let least_fits : FitsSigned w32 c.from_be_bytes-min_bytes.result = search rules in
    let most_fits : FitsSigned w32 c.from_be_bytes-max_bytes.result = search rules in
    topics_read c.args.bytes.now c.in-Some.rest.now c.from_be_bytes-max_wait_ms.result c.from_be_bytes-min_bytes.result c.from_be_bytes-max_bytes.result (wait_fits, wait) (least_fits, least) (most_fits, most)
    _ c.in_ok-topics.rest.now long later c.in_ok-topics.ensures
