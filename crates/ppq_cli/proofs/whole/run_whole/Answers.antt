use Rattle.ppq_cli.proofs.whole.run_whole.Goals as goal

pub returns : goal.returns
returns g c =
    let e = c.run_words.ensures in
    record {
      written = record {
        done = e.done;
        part = e.part;
        nothing = e.nothing;
      };
      room = e.room;
      to_file = e.to_file;
      to_load = e.to_load;
      ran = e.ran;
      used = e.used;
      used_any = e.used_any;
      transfers = e.transfers;
      transfers_any = e.transfers_any;
      reads = e.reads;
      outside = record {
        made = e.made;
        blocks = e.blocks;
        unfailed = e.unfailed;
        failed = e.failed;
        rack_tells = e.rack_tells;
        files = e.files;
        remembers = e.remembers;
        faults = record {
          read = e.read;
          write = e.write;
          device = e.device;
          library_later = e.library_later;
          library_stays = e.library_stays;
          rack_later = e.rack_later;
          rack_stays = e.rack_stays;
          sink_later = e.sink_later;
          sink_stays = e.sink_stays;
        };
      };
      unreadable = record {
        usage = e.usage;
        no_reading = e.no_reading;
        early = e.early;
        none = e.none;
        unasked = e.unasked;
      };
      answer = e.answer;
      refused = e.refused;
      above = e.above;
      above_any = e.above_any;
      complete = e.complete;
      complete_any = e.complete_any;
      complete_given = e.complete_given;
    }
