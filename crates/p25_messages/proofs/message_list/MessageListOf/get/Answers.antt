use Rattle.std.proofs.Common.{ap, arith}
use Rattle.p25_messages.specs.MessageList.{ListParts}
use Rattle.p25_messages.proofs.MessageListLaws.{length-list, IsPiece, IsPiece-at}
use Rattle.p25_messages.proofs.message_list.MessageListOf.get.Given as given
use Rattle.p25_messages.proofs.message_list.MessageListOf.get.Goals as goal

pub start-requires : goal.start-requires
start-requires g c =
    omega (
      arith,
      length-list c.self.inside.ends.items c.self.inside.octets.items c.as_slice-ends.result.now c.args.self.now.list
          (ap (λ (s : ListParts). s.list) c.self.view_is) c.as_slice-ends.ensures.value,
    )

pub overflow_add-i : goal.overflow_add-i
overflow_add-i g c =
    omega (
      arith,
      c.as_slice-ends.type_inv,
      length-list c.self.inside.ends.items c.self.inside.octets.items c.as_slice-ends.result.now c.args.self.now.list
          (ap (λ (s : ListParts). s.list) c.self.view_is) c.as_slice-ends.ensures.value,
    )

pub start-requires-2 : goal.start-requires-2
start-requires-2 g c =
    omega (
      arith,
      length-list c.self.inside.ends.items c.self.inside.octets.items c.as_slice-ends.result.now c.args.self.now.list
          (ap (λ (s : ListParts). s.list) c.self.view_is) c.as_slice-ends.ensures.value,
    )

piece : (g : given.Over) (c : goal.After-start-2 g) → IsPiece c.as_slice.result.now c.args.self.now.list c.args.i c.start.result c.start-2.result
piece g c =
    IsPiece-at c.self.inside.octets c.as_slice.result.now c.self.inside.ends.items c.as_slice-ends.result.now c.args.self.now.list c.args.i c.start.result
    c.start-2.result c.self.invariant.are (ap (λ (s : ListParts). s.list) c.self.view_is) c.as_slice.ensures.value c.as_slice-ends.ensures.value c.requires
    c.start.ensures c.start-2.ensures

pub slice_bounds-result-count : goal.slice_bounds-result-count
slice_bounds-result-count g c = (piece g c).ordered

pub slice_bounds-result-start : goal.slice_bounds-result-start
slice_bounds-result-start g c = omega (arith, (piece g c).ordered, (piece g c).within)

pub slice_bounds-result-end : goal.slice_bounds-result-end
slice_bounds-result-end g c = omega (arith, (piece g c).ordered, (piece g c).within)

pub returns : goal.returns
returns g c =
    (IsPiece-at c.self.inside.octets c.as_slice.result.now c.self.inside.ends.items c.as_slice-ends.result.now c.args.self.now.list c.args.i c.start.result
    c.start-2.result c.self.invariant.are (ap (λ (s : ListParts). s.list) c.self.view_is) c.as_slice.ensures.value c.as_slice-ends.ensures.value c.requires
    c.start.ensures c.start-2.ensures).piece
