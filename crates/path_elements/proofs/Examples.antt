-- Lists of packets with their elements, worked out by hand from the standard's descriptions.
use Rattle.std.proofs.Common.{◌≡◌, Bool, List, [], ◌∷◌, map, replicate, true, false, Some, None, refl}
use Rattle.etm_types.specs.declared.atoms.FewAtoms.{FewAtoms}
use Rattle.etm_types.specs.declared.context.Ctx.{Ctx}
use Rattle.etm_types.specs.declared.context.CtxBits.{CtxBits}
use Rattle.etm_types.specs.declared.address.AddrForm.TheVariants.{Match, Short1, Short2, Long32, Long64}
use Rattle.etm_types.specs.declared.element.Elem.TheVariants as elem
use Rattle.etm_types.specs.declared.element.P0.TheVariants as p0
use Rattle.packet_grammar.specs.declared.packet.Packet.{Packet}
use Rattle.packet_grammar.specs.declared.packet.Packet.TheVariants as packet
use Rattle.path_elements.specs.Elements.{Told, untold, all_elements, elements_of, is_misplaced, tells, told_after, told_by}

abbrev secure : Ctx
secure = record { el = 0; ns = false; vmid = 0; cid = 0 }

abbrev no_field : CtxBits
no_field = record { el = 0; ns = false; vmid = None; cid = None }

abbrev info : Packet
info = packet.Info (Some 0) None None None

-- after a trace info
abbrev begun : Told
begun = record { history = 0 ∷ 0 ∷ 0 ∷ []; context = secure; informed = true; awaiting = None }

-- Before the first trace info nothing is told, and no exception awaits an address. From there on each packet has its
-- elements, with its offset, and an A-sync has none. A trace info forgets the addresses.
pub a_trace_with_two_syncs :
    all_elements untold ((0, packet.Async) ∷ (12, packet.On) ∷ (13, packet.Exc 1 false) ∷ (15, info) ∷ (18, packet.On)
    ∷ (19, packet.Addr (Long64 0x1000) (Some no_field)) ∷ (29, packet.Atoms (record { count = 1; bits = 1 })) ∷ (30, packet.Async)
    ∷ (42, packet.Info (Some 0) None (Some 1) None) ∷ (46, packet.Addr (Long64 0x100c) (Some no_field))
    ∷ (56, packet.Mispredict (record { count = 0; first = false })) ∷ (57, packet.Commit 2) ∷ [])
    ≡ record {
      elements = (15, elem.Info 0) ∷ (18, elem.On) ∷ (19, elem.Ctx secure) ∷ (19, elem.Addr 0x1000) ∷ (29, elem.P0 (p0.Atom true))
          ∷ (42, elem.Info 1) ∷ (46, elem.Ctx secure) ∷ (46, elem.Addr 0x100c) ∷ (56, elem.Flip) ∷ (57, elem.Commit 2) ∷ [];
      awaited = None;
      told = record begun { history = 0x100c ∷ 0 ∷ 0 ∷ [] };
    }
a_trace_with_two_syncs = refl

-- What a context leaves out is as it was told last, and an element has the whole of it.
pub contexts_are_kept :
    all_elements untold ((0, info) ∷ (3, packet.CtxInfo (record { el = 1; ns = true; vmid = Some 5; cid = None }))
    ∷ (6, packet.CtxInfo (record { el = 2; ns = false; vmid = None; cid = Some 7 })) ∷ (12, packet.Cancel 1 false) ∷ (14, packet.CtxSame) ∷ [])
    ≡ record {
      elements = (0, elem.Info 0) ∷ (3, elem.Ctx (record { el = 1; ns = true; vmid = 5; cid = 0 }))
          ∷ (6, elem.Ctx (record { el = 2; ns = false; vmid = 5; cid = 7 })) ∷ (12, elem.Cancel 1)
          ∷ (14, elem.Ctx (record { el = 2; ns = false; vmid = 5; cid = 7 })) ∷ [];
      awaited = None;
      told = record begun { context = record { el = 2; ns = false; vmid = 5; cid = 7 } };
    }
contexts_are_kept = refl

-- Each form takes the upper bits of the address told last, and an address is put first whatever its form.
pub addresses_are_pushed :
    all_elements begun ((0, packet.Addr (Long64 0x1122334455667788) None) ∷ (9, packet.Addr (Short1 0x10) None)
    ∷ (11, packet.Addr (Short2 0x1fffc) None) ∷ (14, packet.Addr (Long32 0x90000000) None) ∷ (19, packet.Addr (Match 2) None)
    ∷ (20, packet.Addr (Match 2) None) ∷ [])
    ≡ record {
      elements = (0, elem.Addr 0x1122334455667788) ∷ (9, elem.Addr 0x1122334455667610) ∷ (11, elem.Addr 0x112233445567fffc)
          ∷ (14, elem.Addr 0x1122334490000000) ∷ (19, elem.Addr 0x1122334455667610) ∷ (20, elem.Addr 0x112233445567fffc) ∷ [];
      awaited = None;
      told = record begun { history = 0x112233445567fffc ∷ 0x1122334455667610 ∷ 0x1122334490000000 ∷ [] };
    }
addresses_are_pushed = refl

-- The address after an exception is its preferred return address, and is put first like any other. A context may stand
-- between them.
pub an_exception_has_its_address :
    all_elements begun ((0, packet.Exc 14 false) ∷ (2, packet.Event 1) ∷ (3, packet.CtxSame) ∷ (4, packet.Addr (Long32 0x1004) None)
    ∷ (9, packet.Addr (Match 0) None) ∷ [])
    ≡ record {
      elements = (3, elem.Ctx secure) ∷ (4, elem.P0 (p0.Exc 14 0x1004)) ∷ (9, elem.Addr 0x1004) ∷ [];
      awaited = None;
      told = record begun { history = 0x1004 ∷ 0x1004 ∷ 0 ∷ [] };
    }
an_exception_has_its_address = refl

-- Where it is the target of what stood before too, it is an element of its own, before the exception and behind the context that
-- comes with it. It is put first once. The next exception is of either form by itself.
pub an_exception_at_its_target :
    all_elements begun ((0, packet.Exc 14 true) ∷ (2, packet.Addr (Long32 0x1004) (Some no_field)) ∷ (8, packet.Exc 3 true) ∷ (10, packet.Event 1)
    ∷ (11, packet.Addr (Short1 0x10) None) ∷ (13, packet.Exc 3 false) ∷ (15, packet.Addr (Match 1) None) ∷ [])
    ≡ record {
      elements = (2, elem.Ctx secure) ∷ (2, elem.Addr 0x1004) ∷ (2, elem.P0 (p0.Exc 14 0x1004)) ∷ (11, elem.Addr 0x1010)
          ∷ (11, elem.P0 (p0.Exc 3 0x1010)) ∷ (15, elem.P0 (p0.Exc 3 0x1004)) ∷ [];
      awaited = None;
      told = record begun { history = 0x1004 ∷ 0x1010 ∷ 0x1004 ∷ [] };
    }
an_exception_at_its_target = refl

-- An overflow and a discard drop it, and keep addresses and context.
pub an_exception_is_dropped :
    all_elements begun ((0, packet.Exc 3 false) ∷ (2, packet.Overflow) ∷ (4, packet.Commit 1) ∷ (6, packet.Exc 4 false) ∷ (8, packet.Discard)
    ∷ (10, packet.On) ∷ [])
    ≡ record {
      elements = (2, elem.Overflow) ∷ (4, elem.Commit 1) ∷ (8, elem.Discard) ∷ (10, elem.On) ∷ [];
      awaited = None;
      told = begun;
    }
an_exception_is_dropped = refl

-- With it goes that its address is a target: the next address is an element alone.
pub a_target_is_dropped :
    all_elements begun ((0, packet.Exc 3 true) ∷ (2, packet.Overflow) ∷ (4, packet.Addr (Long32 0x1000) None) ∷ (9, packet.Exc 4 true)
    ∷ (11, packet.Discard) ∷ (13, packet.Exc 4 false) ∷ (15, packet.Addr (Match 0) None) ∷ [])
    ≡ record {
      elements = (2, elem.Overflow) ∷ (4, elem.Addr 0x1000) ∷ (11, elem.Discard) ∷ (15, elem.P0 (p0.Exc 4 0x1000)) ∷ [];
      awaited = None;
      told = record begun { history = 0x1000 ∷ 0x1000 ∷ 0 ∷ [] };
    }
a_target_is_dropped = refl

-- Any other packet before its address ends the elements there.
pub a_packet_comes_too_early :
    all_elements begun ((0, packet.On) ∷ (1, packet.Exc 3 true) ∷ (3, packet.Ignore) ∷ (4, packet.Commit 1) ∷ (6, packet.Overflow) ∷ [])
    ≡ record { elements = (0, elem.On) ∷ []; awaited = Some 4; told = record begun { awaiting = Some (record { kind = 3; target = true }) } }
a_packet_comes_too_early = refl

-- Atoms come first, the oldest of them before the others; then what is cancelled; then the wrong prediction.
pub elements_come_in_order :
    all_elements begun ((0, packet.Atoms (record { count = 3; bits = 1 })) ∷ (1, packet.Cancel 2 true) ∷
    (3, packet.Mispredict (record { count = 1; first = false }))
    ∷ (4, packet.Cancel2 (record { count = 2; first = true })) ∷ (5, packet.Cancel3 true 5) ∷ (6, packet.Cancel3 false 2) ∷ [])
    ≡ record {
      elements = (0, elem.P0 (p0.Atom true)) ∷ (0, elem.P0 (p0.Atom false)) ∷ (0, elem.P0 (p0.Atom false)) ∷ (1, elem.Cancel 2) ∷ (1, elem.Flip)
          ∷ (3, elem.P0 (p0.Atom false)) ∷ (3, elem.Flip) ∷ (4, elem.P0 (p0.Atom true)) ∷ (4, elem.P0 (p0.Atom true)) ∷ (4, elem.Cancel 1) ∷ (4, elem.Flip)
          ∷ (5, elem.P0 (p0.Atom true)) ∷ (5, elem.Cancel 5) ∷ (5, elem.Flip) ∷ (6, elem.Cancel 2) ∷ (6, elem.Flip) ∷ [];
      awaited = None;
      told = begun;
    }
elements_come_in_order = refl

-- ---- where packets may come

abbrev no_atom : FewAtoms
no_atom = record { count = 0; first = false }

-- one packet of each kind, in the order of the standard
abbrev kinds : List Packet
kinds =
    packet.Async ∷ packet.Discard ∷ packet.Overflow ∷ info ∷ packet.On ∷ packet.Ignore
    ∷ packet.Event 1 ∷ packet.Time 7 0 ∷ packet.Exc 3 false ∷ packet.Commit 1 ∷ packet.Cancel 1 false ∷ packet.Mispredict no_atom
    ∷ packet.Cancel2 no_atom ∷ packet.Cancel3 false 2 ∷ packet.CtxSame ∷ packet.CtxInfo no_field ∷ packet.Addr (Match 0) None
    ∷ packet.Atoms (record { count = 1; bits = 1 }) ∷ []

-- Between an exception and its address no trace info, trace on, exception, commit, cancel, mispredict or atom may come.
pub before_the_address_of_an_exception :
    (target : Bool) → map (is_misplaced (record begun { awaiting = Some (record { kind = 3; target = target }) })) kinds
    ≡ false ∷ false ∷ false ∷ true ∷ true ∷ false
    ∷ false ∷ false ∷ true ∷ true ∷ true ∷ true
    ∷ true ∷ true ∷ false ∷ false ∷ false
    ∷ true ∷ []
before_the_address_of_an_exception target = refl

-- Where no exception awaits its address, every packet may come.
pub before_an_exception :
    map (is_misplaced begun) kinds
    ≡ false ∷ false ∷ false ∷ false ∷ false ∷ false
    ∷ false ∷ false ∷ false ∷ false ∷ false ∷ false
    ∷ false ∷ false ∷ false ∷ false ∷ false
    ∷ false ∷ []
before_an_exception = refl

-- Before the first trace info no other packet counts.
pub before_the_first_trace_info :
    map (tells untold) kinds
    ≡ false ∷ false ∷ false ∷ true ∷ false ∷ false
    ∷ false ∷ false ∷ false ∷ false ∷ false ∷ false
    ∷ false ∷ false ∷ false ∷ false ∷ false
    ∷ false ∷ []
before_the_first_trace_info = refl

-- ---- what an overflow, a discard and a trace info leave

abbrev handler : Ctx
handler = record { el = 1; ns = true; vmid = 5; cid = 7 }

-- addresses, a context, and an exception whose address is still to come
abbrev under_way : Told
under_way = record { history = 0x3000 ∷ 0x2000 ∷ 0x1000 ∷ []; context = handler; informed = true; awaiting = Some (record { kind = 3; target = true }) }

pub after_an_overflow : told_after under_way packet.Overflow ≡ record under_way { awaiting = None }
after_an_overflow = refl

pub after_a_discard : told_after under_way packet.Discard ≡ record under_way { awaiting = None }
after_a_discard = refl

pub after_a_trace_info : told_after (record under_way { awaiting = None }) info ≡ begun
after_a_trace_info = refl

-- a trace info without a SPEC section is one of speculation depth 0
pub their_elements :
    map (elements_of under_way) (packet.Overflow ∷ packet.Discard ∷ info ∷ packet.Info None None (Some 3) None ∷ [])
    ≡ (elem.Overflow ∷ []) ∷ (elem.Discard ∷ []) ∷ (elem.Info 0 ∷ []) ∷ (elem.Info 3 ∷ []) ∷ []
their_elements = refl

-- ---- what each packet leaves of all that is told, and of it while no trace info came

abbrev quiet : Told
quiet = record { history = 0x3000 ∷ 0x2000 ∷ 0x1000 ∷ []; context = handler; informed = false; awaiting = None }

-- these leave all as it was
abbrev idle : List Packet
idle =
    packet.Async ∷ packet.On ∷ packet.Ignore ∷ packet.Event 1 ∷ packet.Time 7 1 ∷ packet.Commit 1 ∷ packet.Cancel 1 true ∷ packet.Mispredict no_atom
    ∷ packet.Cancel2 no_atom ∷ packet.Cancel3 true 2 ∷ packet.CtxSame ∷ packet.Atoms (record { count = 1; bits = 1 }) ∷ []

pub left_as_it_was : map (told_by under_way) idle ≡ replicate 12 under_way
left_as_it_was = refl

pub left_untold : map (told_by quiet) idle ≡ replicate 12 quiet
left_untold = refl

-- each of the others changes what it tells of, and nothing else
abbrev telling : List Packet
telling =
    packet.Discard ∷ packet.Overflow ∷ packet.Exc 9 true ∷ packet.Exc 9 false
    ∷ packet.CtxInfo (record { el = 2; ns = false; vmid = None; cid = Some 8 }) ∷ packet.Addr (Short1 0x10) None
    ∷ packet.Addr (Match 2) (Some (record { el = 3; ns = false; vmid = Some 6; cid = None })) ∷ info ∷ []

pub one_thing_changes :
    map (told_by under_way) telling
    ≡ record { history = 0x3000 ∷ 0x2000 ∷ 0x1000 ∷ []; context = handler; informed = true; awaiting = None }
    ∷ record { history = 0x3000 ∷ 0x2000 ∷ 0x1000 ∷ []; context = handler; informed = true; awaiting = None }
    ∷ record { history = 0x3000 ∷ 0x2000 ∷ 0x1000 ∷ []; context = handler; informed = true; awaiting = Some (record { kind = 9; target = true }) }
    ∷ record { history = 0x3000 ∷ 0x2000 ∷ 0x1000 ∷ []; context = handler; informed = true; awaiting = Some (record { kind = 9; target = false }) }
    ∷ record {
      history = 0x3000 ∷ 0x2000 ∷ 0x1000 ∷ [];
      context = record { el = 2; ns = false; vmid = 5; cid = 8 };
      informed = true;
      awaiting = Some (record { kind = 3; target = true });
    }
    ∷ record { history = 0x3010 ∷ 0x3000 ∷ 0x2000 ∷ []; context = handler; informed = true; awaiting = None }
    ∷ record {
      history = 0x1000 ∷ 0x3000 ∷ 0x2000 ∷ [];
      context = record { el = 3; ns = false; vmid = 6; cid = 7 };
      informed = true;
      awaiting = None;
    }
    ∷ record { history = 0 ∷ 0 ∷ 0 ∷ []; context = secure; informed = true; awaiting = Some (record { kind = 3; target = true }) } ∷ []
one_thing_changes = refl

pub one_thing_changes_of_nothing_told :
    map (told_by quiet) telling
    ≡ quiet ∷ quiet
    ∷ record { history = 0x3000 ∷ 0x2000 ∷ 0x1000 ∷ []; context = handler; informed = false; awaiting = Some (record { kind = 9; target = true }) }
    ∷ record { history = 0x3000 ∷ 0x2000 ∷ 0x1000 ∷ []; context = handler; informed = false; awaiting = Some (record { kind = 9; target = false }) }
    ∷ record {
      history = 0x3000 ∷ 0x2000 ∷ 0x1000 ∷ [];
      context = record { el = 2; ns = false; vmid = 5; cid = 8 };
      informed = false;
      awaiting = None;
    }
    ∷ record { history = 0x3010 ∷ 0x3000 ∷ 0x2000 ∷ []; context = handler; informed = false; awaiting = None }
    ∷ record {
      history = 0x1000 ∷ 0x3000 ∷ 0x2000 ∷ [];
      context = record { el = 3; ns = false; vmid = 6; cid = 7 };
      informed = false;
      awaiting = None;
    }
    ∷ begun ∷ []
one_thing_changes_of_nothing_told = refl

pub told_at_first : untold ≡ record { history = 0 ∷ 0 ∷ 0 ∷ []; context = secure; informed = false; awaiting = None }
told_at_first = refl

-- before the first trace info nothing but that is told
pub not_told_at_first : map (told_after quiet) telling ≡ quiet ∷ quiet ∷ quiet ∷ quiet ∷ quiet ∷ quiet ∷ quiet ∷ begun ∷ []
not_told_at_first = refl

-- what was gained before a packet that may not come stays, and so does what is told there
pub gained_in_front :
    all_elements under_way ((7, packet.Discard) ∷ (8, packet.Exc 9 true) ∷ (10, packet.CtxSame) ∷ (11, packet.On) ∷ (12, packet.On) ∷ [])
    ≡ record {
      elements = (7, elem.Discard) ∷ (10, elem.Ctx handler) ∷ [];
      awaited = Some 11;
      told = record
          { history = 0x3000 ∷ 0x2000 ∷ 0x1000 ∷ []; context = handler; informed = true; awaiting = Some (record { kind = 9; target = true }) };
    }
gained_in_front = refl
