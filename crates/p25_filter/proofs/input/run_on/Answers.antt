use Rattle.std.proofs.Common.{◌≡◌, ℕ, [], ◌++◌, take, ap, ◌∙◌, arith, length-append, length-take}
use Rattle.p25_filter.proofs.InputLaws.{Came-comes, Came-read_fault, Came-too_long, SoFar-first, SoFar-goes, SoFar-over, SoFar-read, all-is_given, idle-finished}
use Rattle.p25_filter.proofs.input.run_on.Goals as goal

pub loop-count-init : goal.loop-count-init
loop-count-init g c = record {
  octets = [];
  so_far = SoFar-first g.met.P.Port.chain _ _;
  count = omega arith;
  drained = c.requires.drained;
  idle = c.requires.idle;
  going = c.requires.going;
  size = omega (arith, c.requires.few);
  empty = c.new-page.ensures;
  few = omega arith;
  buffer = omega arith;
}

pub returns-in_default : goal.returns-in_default
returns-in_default g c =
    let inv = c.loop-count.invariant in
    Came-read_fault g.met.P.Port.chain _ _ inv.octets inv.so_far (omega (arith, inv.count, inv.few)) inv.idle c.in_default.ensures.failed

pub returns-in-Err : goal.returns-in-Err
returns-in-Err g c =
    let inv = c.loop-count.invariant in
    let none : take c.in-Ok.count c.read.new.buf ≡ [] = ap (λ (n : ℕ). take n c.read.new.buf) c.if-count-eq0.true in
    let over =
    SoFar-over g.met.P.Port.chain _ _ inv.octets (take c.in-Ok.count c.read.new.buf) inv.so_far (omega (arith, inv.count, inv.few)) inv.idle
    c.in-Ok.ensures.given.1 none c.finish.ensures.closed in
    Came-comes g.met.P.Port.chain _ _ [] [] over (rw inv.empty at c.in-Err.ensures.comes)

pub returns-then-count-eq0 : goal.returns-then-count-eq0
returns-then-count-eq0 g c =
    let inv = c.loop-count.invariant in
    let chain = g.met.P.Port.chain in
    let none : take c.in-Ok.count c.read.new.buf ≡ [] = ap (λ (n : ℕ). take n c.read.new.buf) c.if-count-eq0.true in
    let over =
    SoFar-over chain _ _ inv.octets (take c.in-Ok.count c.read.new.buf) inv.so_far (omega (arith, inv.count, inv.few)) inv.idle
    c.in-Ok.ensures.given.1 none c.finish.ensures.closed in
    let idle = idle-finished _ _ _ c.in_default-drain.ensures.idle c.drain.ensures.same c.finish.ensures.finished in
    Came-comes chain _ _ [] [] (SoFar-goes chain _ _ [] [] over (rw inv.empty at c.in_default-drain.ensures.goes))
    (c.end_so.ensures _ (all-is_given _ _ idle c.ending.ensures))

pub returns-in-Err-feed : goal.returns-in-Err-feed
returns-in-Err-feed g c =
    let inv = c.loop-count.invariant in
    let buf = c.read.new.buf in
    let read =
    SoFar-read g.met.P.Port.chain _ _ inv.octets buf c.in-Ok.count c.min-fits.result inv.so_far (omega (arith, inv.count, inv.few)) inv.idle
    c.in-Ok.ensures.given (omega (arith, c.if-count-eq0.false)) (omega (arith, inv.buffer, c.read.ensures.room)) (omega (arith, c.min-fits.ensures, inv.count)) in
    Came-comes g.met.P.Port.chain _ _ (take c.min-fits.result buf) [] read (rw inv.empty at c.in-Err-feed.ensures.comes)

pub returns-then-fits-count : goal.returns-then-fits-count
returns-then-fits-count g c =
    let inv = c.loop-count.invariant in
    let buf = c.read.new.buf in
    let read =
    SoFar-read g.met.P.Port.chain _ _ inv.octets buf c.in-Ok.count c.min-fits.result inv.so_far (omega (arith, inv.count, inv.few)) inv.idle
    c.in-Ok.ensures.given (omega (arith, c.if-count-eq0.false)) (omega (arith, inv.buffer, c.read.ensures.room)) (omega (arith, c.min-fits.ensures, inv.count)) in
    Came-too_long g.met.P.Port.chain _ _ (inv.octets ++ take c.in-Ok.count buf)
    (SoFar-goes g.met.P.Port.chain _ _ (take c.min-fits.result buf) [] read (rw inv.empty at c.in-Ok-feed.ensures.goes))
    (omega (arith, length-append inv.octets (take c.in-Ok.count buf), length-take c.in-Ok.count buf, c.in-Ok.ensures.given.0, c.if-fits-count.true, c.min-fits.ensures, inv.count))
    c.in-Ok-feed.ensures.idle

pub loop-count-preserved : goal.loop-count-preserved
loop-count-preserved g c =
    let inv = c.loop-count.invariant in
    let buf = c.read.new.buf in
    let count = c.in-Ok.count in
    let read =
    SoFar-read g.met.P.Port.chain _ _ inv.octets buf c.in-Ok.count c.min-fits.result inv.so_far (omega (arith, inv.count, inv.few)) inv.idle
    c.in-Ok.ensures.given (omega (arith, c.if-count-eq0.false)) (omega (arith, inv.buffer, c.read.ensures.room)) (omega (arith, c.min-fits.ensures, inv.count)) in
    record {
      octets = inv.octets ++ take count buf;
      so_far = SoFar-goes g.met.P.Port.chain _ _ (take c.min-fits.result buf) [] read (rw inv.empty at c.in-Ok-feed.ensures.goes);
      count = omega (arith, length-append inv.octets (take count buf), length-take count buf, c.in-Ok.ensures.given.0, inv.count);
      drained = c.in-Ok-feed.ensures.drained;
      idle = c.in-Ok-feed.ensures.idle;
      going = c.feed.ensures.going;
      size = omega (arith, c.feed.ensures.size, inv.size, length-take c.min-fits.result buf, c.min-fits.ensures);
      empty = c.in-Ok-feed.ensures.empty;
      few = omega (arith, c.min-fits.ensures, c.if-fits-count.false, inv.few);
      buffer = c.read.ensures.room ∙ inv.buffer;
    }
