use Rattle.std.proofs.Common.{◌≡◌, ◌≢◌, ℕ, ◌*◌, ◌/◌, List, Bool, length, true, Some, ap, sym, subst, ◌∙◌, arith, ℤ}
use Rattle.std.specs.Option.{is_some}
use Rattle.p25_voice_units.specs.Lengths.{voice_length_of}
use Rattle.p25_units.specs.{Units.{body_duid}, declared.frame.Frame.{Frame}, declared.item.Item.{Item}, declared.item.Item.TheVariants.{Whole, Broken}}
use Rattle.p25_status.specs.declared.fields.Field.{Field}
use Rattle.p25_units.specs.declared.unit.Body.{Body}
use Rattle.p25_follow.specs.Followed.{unit_name}
use Rattle.p25_soft.specs.{Softened.{IsHeard, softened}}
use Rattle.p25_soft.proofs.HardBitsLaws.{length-hard_bits}
use Rattle.p25_decide.specs.{DecidedRecordings.{unit_decided}, DecidedUnits.{decided_sent}}
use Rattle.p25_decide.proofs.UnitHeardLaws.{HasVoiceLength, broken-length, decided-broken, decided-broken-packet, decided-no-unit, decided-packet, decided-whole, whole-length}
use Rattle.p25_decide.proofs.item.decide_own.Goals as goal

-- the soft symbols of a data unit are one for each two of its bits
twice : (item : Item) (levels : List ℤ) (sent : List Bool) → IsHeard item levels sent → length sent ≡ 2 * length levels
twice item levels sent heard = ap length heard.hard ∙ length-hard_bits levels

-- a whole unit, and a broken one, is heard
whole-heard : (item : Item) (levels : List ℤ) (sent : List Bool) (place : ℕ) (frame : Frame) (fixes : ℕ) → (is_some (unit_name item) ≡ true → IsHeard item levels sent) → item ≡ Whole place frame fixes
    → IsHeard (Whole place frame fixes) levels sent
whole-heard item levels sent place frame fixes heard is =
    subst (λ (i : Item). IsHeard i levels sent) is (heard (ap (λ (i : Item). is_some (unit_name i)) is))

broken-heard : (item : Item) (levels : List ℤ) (sent : List Bool) (place count nac duid : ℕ) (fields : List Field) → (is_some (unit_name item) ≡ true → IsHeard item levels sent)
    → item ≡ Broken place count nac duid fields → IsHeard (Broken place count nac duid fields) levels sent
broken-heard item levels sent place count nac duid fields heard is =
    subst (λ (i : Item). IsHeard i levels sent) is (heard (ap (λ (i : Item). is_some (unit_name i)) is))

whole-fits : (levels : List ℤ) (sent : List Bool) (place : ℕ) (frame : Frame) (fixes : ℕ) → IsHeard (Whole place frame fixes) levels sent → body_duid frame.unit.body ≢ 0xC
    → HasVoiceLength (body_duid frame.unit.body) (length levels)
whole-fits levels sent place frame fixes heard other = whole-length frame (length sent) (length levels) other heard.covers (twice (Whole place frame fixes) levels sent heard)

broken-fits : (levels : List ℤ) (sent : List Bool) (place count nac duid : ℕ) (fields : List Field) → IsHeard (Broken place count nac duid fields) levels sent → duid ≢ 0xC → HasVoiceLength duid (length levels)
broken-fits levels sent place count nac duid fields heard other =
    broken-length place count nac duid fields sent (length levels) heard.read other (twice (Broken place count nac duid fields) levels sent heard)

-- the type of a whole unit
same-duid : (duid : ℕ) (body : Body) (frame : Frame) → duid ≡ body_duid body → body ≡ frame.unit.body → duid ≡ body_duid frame.unit.body
same-duid duid body frame is same = is ∙ ap body_duid same

pub decide_unit-requires-clause-kind : goal.decide_unit-requires-clause-kind
decide_unit-requires-clause-kind c =
    let duid = same-duid c.duid-duid.result c.body.result.now c.in-Whole.frame c.duid-duid.ensures.value c.body.ensures in
    let other : body_duid c.in-Whole.frame.unit.body ≢ 0xC = λ packet. c.if-duid-ne-PDU.true (duid ∙ packet) in
    let fits = whole-fits c.args.levels.now c.args.raw.now c.in-Whole.place c.in-Whole.frame c.in-Whole.fixes
    (whole-heard c.args.item.now c.args.levels.now c.args.raw.now c.in-Whole.place c.in-Whole.frame c.in-Whole.fixes c.requires c.in-Whole.is) other in
    subst (λ d. voice_length_of d ≡ Some (70 * (length c.args.levels.now / 36))) (sym duid) fits.bare

pub decide_unit-requires-clause-whole : goal.decide_unit-requires-clause-whole
decide_unit-requires-clause-whole c =
    let duid = same-duid c.duid-duid.result c.body.result.now c.in-Whole.frame c.duid-duid.ensures.value c.body.ensures in
    let other : body_duid c.in-Whole.frame.unit.body ≢ 0xC = λ packet. c.if-duid-ne-PDU.true (duid ∙ packet) in
    (whole-fits c.args.levels.now c.args.raw.now c.in-Whole.place c.in-Whole.frame c.in-Whole.fixes
    (whole-heard c.args.item.now c.args.levels.now c.args.raw.now c.in-Whole.place c.in-Whole.frame c.in-Whole.fixes c.requires c.in-Whole.is) other).blocks

pub decide_unit-requires-clause-levels : goal.decide_unit-requires-clause-levels
decide_unit-requires-clause-levels c =
    twice (Whole c.in-Whole.place c.in-Whole.frame c.in-Whole.fixes) c.args.levels.now c.args.raw.now (whole-heard c.args.item.now c.args.levels.now c.args.raw.now c.in-Whole.place c.in-Whole.frame c.in-Whole.fixes c.requires c.in-Whole.is)

pub decide_unit-requires-else-duid-eq-PDU-clause-kind : goal.decide_unit-requires-else-duid-eq-PDU-clause-kind
decide_unit-requires-else-duid-eq-PDU-clause-kind c =
    (broken-fits c.args.levels.now c.args.raw.now c.in-Broken.place c.in-Broken.length c.in-Broken.nac c.in-Broken.duid c.in-Broken.fields
    (broken-heard c.args.item.now c.args.levels.now c.args.raw.now c.in-Broken.place c.in-Broken.length c.in-Broken.nac c.in-Broken.duid c.in-Broken.fields c.requires c.in-Broken.is) c.if-duid-eq-PDU.false).bare

pub decide_unit-requires-else-duid-eq-PDU-clause-whole : goal.decide_unit-requires-else-duid-eq-PDU-clause-whole
decide_unit-requires-else-duid-eq-PDU-clause-whole c =
    (broken-fits c.args.levels.now c.args.raw.now c.in-Broken.place c.in-Broken.length c.in-Broken.nac c.in-Broken.duid c.in-Broken.fields
    (broken-heard c.args.item.now c.args.levels.now c.args.raw.now c.in-Broken.place c.in-Broken.length c.in-Broken.nac c.in-Broken.duid c.in-Broken.fields c.requires c.in-Broken.is) c.if-duid-eq-PDU.false).blocks

pub decide_unit-requires-else-duid-eq-PDU-clause-levels : goal.decide_unit-requires-else-duid-eq-PDU-clause-levels
decide_unit-requires-else-duid-eq-PDU-clause-levels c =
    twice (Broken c.in-Broken.place c.in-Broken.length c.in-Broken.nac c.in-Broken.duid c.in-Broken.fields) c.args.levels.now c.args.raw.now
    (broken-heard c.args.item.now c.args.levels.now c.args.raw.now c.in-Broken.place c.in-Broken.length c.in-Broken.nac c.in-Broken.duid c.in-Broken.fields c.requires c.in-Broken.is)

pub returns-then-duid-ne-PDU : goal.returns-then-duid-ne-PDU
returns-then-duid-ne-PDU c =
    let levels = c.args.levels.now in
    let raw = c.args.raw.now in
    let duid = same-duid c.duid-duid.result c.body.result.now c.in-Whole.frame c.duid-duid.ensures.value c.body.ensures in
    c.decide_unit.ensures.bits
    ∙ ap (λ d. decided_sent d levels raw) duid
    ∙ sym (ap (λ (i : Item). unit_decided levels i raw) c.in-Whole.is ∙ decided-whole levels c.in-Whole.place c.in-Whole.frame c.in-Whole.fixes raw)

pub returns-else-duid-ne-PDU : goal.returns-else-duid-ne-PDU
returns-else-duid-ne-PDU c =
    let levels = c.args.levels.now in
    let raw = c.args.raw.now in
    let duid = same-duid c.duid-duid.result c.body.result.now c.in-Whole.frame c.duid-duid.ensures.value c.body.ensures in
    let packet : c.duid-duid.result ≡ 0xC = omega (arith, c.if-duid-ne-PDU.false) in
    decided-packet levels c.in-Whole.place c.in-Whole.frame c.in-Whole.fixes raw (sym duid ∙ packet)
    (whole-heard c.args.item.now c.args.levels.now c.args.raw.now c.in-Whole.place c.in-Whole.frame c.in-Whole.fixes c.requires c.in-Whole.is).covers
    ∙ ap (λ (i : Item). unit_decided levels i raw) (sym c.in-Whole.is)

pub returns-then-duid-eq-PDU : goal.returns-then-duid-eq-PDU
returns-then-duid-eq-PDU c =
    let levels = c.args.levels.now in
    let raw = c.args.raw.now in
    c.soften.ensures.bits
    ∙ ap (λ (i : Item). softened i levels raw) c.in-Broken.is
    ∙ sym (ap (λ (i : Item). unit_decided levels i raw) c.in-Broken.is
    ∙ decided-broken-packet levels c.in-Broken.place c.in-Broken.length c.in-Broken.nac c.in-Broken.duid c.in-Broken.fields raw c.if-duid-eq-PDU.true)

pub returns-else-duid-eq-PDU : goal.returns-else-duid-eq-PDU
returns-else-duid-eq-PDU c =
    let levels = c.args.levels.now in
    let raw = c.args.raw.now in
    c.decide_unit-else-duid-eq-PDU.ensures.bits
    ∙ sym (ap (λ (i : Item). unit_decided levels i raw) c.in-Broken.is
    ∙ decided-broken levels c.in-Broken.place c.in-Broken.length c.in-Broken.nac c.in-Broken.duid c.in-Broken.fields raw c.if-duid-eq-PDU.false)

pub returns-in_default : goal.returns-in_default
returns-in_default c = sym (decided-no-unit c.args.levels.now c.args.item.now c.args.raw.now c.in_default.not-Whole c.in_default.not-Broken)
