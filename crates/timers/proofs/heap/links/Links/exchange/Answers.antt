use Rattle.std.proofs.Common.{length-set}
use Rattle.timers.proofs.Swapping.{keys_after, places_after, linked_after}
use Rattle.timers.proofs.heap.links.Links.exchange.Goals as goal

pub returns-clause-moved : goal.returns-clause-moved
returns-clause-moved c =
    let s = c.args.self.now in
    keys_after s.keys s.places c.args.i c.args.j c.args.key c.requires.i c.requires.j c.requires.key s.linked

pub returns-clause-placed : goal.returns-clause-placed
returns-clause-placed c =
    let s = c.args.self.now in
    places_after s.keys s.places c.args.i c.args.j c.args.key c.requires.i c.requires.j c.requires.key s.linked

pub invariant_of-self : goal.invariant_of-self
invariant_of-self c =
    let s = c.args.self.now in
    let moved = keys_after s.keys s.places c.args.i c.args.j c.args.key c.requires.i c.requires.j c.requires.key s.linked in
    let placed = places_after s.keys s.places c.args.i c.args.j c.args.key c.requires.i c.requires.j c.requires.key s.linked in
    record { linked = linked_after s.keys s.places c.args.i c.args.j c.args.key c.requires.i c.requires.j c.requires.key s.linked _ _ (simp length-set s.linked.key_places) (simp length-set s.linked.place_places) moved placed }
