-- FORMAT.md, Q16: all records of a module, defined only by the answers of its queries, with the numbers of Q2. No place in the module is
-- used.
use Rattle.std.specs.Prelude.{ℕ, List, ◌++◌}
use Rattle.vocabulary.specs.Lists.{joined}
use Rattle.numbers.specs.Numbers.{each_from, bytes16}
use Rattle.samples.specs.Shown.{sample_answer}
use Rattle.envelopes.specs.Shown.{count_answer, envelope_answer}
use Rattle.envelopes.specs.declared.EnvelopeKind.{EnvelopeKind}
use Rattle.envelopes.specs.declared.EnvelopeKind.TheVariants.{Volume, Panning}
use Rattle.patterns.specs.Shown.{rows_answer}
use Rattle.songs.specs.Shown.{song_answer, entry_answer}
use Rattle.summary.specs.Shown.{version_answer, name_answer, info_answer}
use Rattle.instruments.specs.Shown.{instrument_answer}
use Rattle.records.specs.Records.{version_record, info_record, song_record, instrument_record, sample_record, envelope_record}

-- Q4 to Q6, Q9: the summary of a module.
abbrev pub reported_summary : List ℕ → List ℕ
reported_summary m =
    version_record (version_answer m)
    ++ ((name_answer m).name
    ++ (info_record (info_answer m)
    ++ (bytes16 (count_answer m Volume).count ++ bytes16 (count_answer m Panning).count)))

-- Q7: a song, with the pattern number of each entry of its playlist.
abbrev pub reported_song : List ℕ → ℕ → List ℕ
reported_song m song =
    song_record (song_answer m song) (joined (each_from (λ (entry : ℕ). bytes16 (entry_answer m song entry).pattern) 0 (song_answer m song).length))

-- Q8: an instrument.
abbrev pub reported_instrument : List ℕ → ℕ → List ℕ
reported_instrument m instrument = instrument_record (instrument_answer m instrument)

-- Q10: a pattern's rows.
abbrev pub reported_pattern : List ℕ → ℕ → List ℕ
reported_pattern m pattern = bytes16 (rows_answer m pattern).rows

-- Q11: a sample.
abbrev pub reported_sample : List ℕ → ℕ → List ℕ
reported_sample m sample = sample_record (sample_answer m sample)

-- Q9: an envelope.
abbrev pub reported_envelope : List ℕ → EnvelopeKind → ℕ → List ℕ
reported_envelope m kind envelope = envelope_record (envelope_answer m kind envelope)

-- Q16: all records. Q2: instruments and samples are counted from 1, all else from 0.
abbrev pub reported_records : List ℕ → List ℕ
reported_records m =
    reported_summary m
    ++ (joined (each_from (reported_song m) 0 (info_answer m).songs)
    ++ (joined (each_from (reported_instrument m) 1 (info_answer m).instruments)
    ++ (joined (each_from (reported_pattern m) 0 (info_answer m).patterns)
    ++ (joined (each_from (reported_sample m) 1 (info_answer m).samples)
    ++ (joined (each_from (reported_envelope m Volume) 0 (count_answer m Volume).count)
    ++ joined (each_from (reported_envelope m Panning) 0 (count_answer m Panning).count))))))
