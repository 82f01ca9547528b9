use Rattle.stream_decoder.proofs.machine.Decoding.begin_front.Goals as goal

pub returns-clause-begun : goal.returns-clause-begun
returns-clause-begun c =
    record {
      byte = c.in_ok-byte.byte.now;
      parts = c.in_ok-byte.ensures.cases.0;
      begins = c.begin.ensures.takes.begins;
      settings = c.begin.ensures.takes.settings;
      offset = c.begin.ensures.takes.offset;
    }
