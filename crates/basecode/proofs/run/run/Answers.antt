use Rattle.std.proofs.Common.{arith, ◌≡◌, ◌∙◌, refl, subst, sym, Some, IfErr, inl, inr}
use Rattle.std.proofs.KnownBytes.{Keeps-refl}
use Rattle.data_encoding.specs.Named.{listing}
use Rattle.basecode.specs.Run.{Begins, ByReply, Converts, CausesFault, OfNames, OfQuestion, Replies, IsCanonicalLine}
use Rattle.encoding_stream.specs.Watch.{inner_of, seen}
use Rattle.basecode.specs.Arguments.{AreRequest, Asks, Names, request_of, texts}
use Rattle.basecode.specs.declared.command.Ask.TheVariants.{Conversion, Question}
use Rattle.basecode.proofs.ConversionLemmas.{done_conversion, ended, failed_conversion, refused_conversion}
use Rattle.basecode.proofs.ArgumentLemmas.{Asks-request}
use Rattle.basecode.proofs.run.run.Given.{Over}
use Rattle.basecode.proofs.run.run.Goals as goal

pub returns-in-Ok-List-clause-done : goal.returns-in-Ok-List-clause-done
returns-in-Ok-List-clause-done g c = λ ends.
    let asked : request_of (texts c.args.words.now) ≡ Some Names =
    subst (AreRequest (texts c.args.words.now)) c.in-Ok-List.field-0-is
    c.in-Ok-List.ensures.asked in
    let kept = Keeps-refl (g.R.Read.remaining (inner_of c.args.reader.now)) in
    let listed : c.as_bytes.result.now ≡ listing =
    c.as_bytes.ensures.value ∙ c.predefined_names.ensures in
    let written = ended _ _ c.send.ensures.sent (sym c.settle.ensures ∙ ends) in
    record {
      output = c.as_bytes.result.now;
      fulfils = ByReply (OfNames asked kept listed);
      written = written;
    }

pub returns-in-Ok-List-clause-begun : goal.returns-in-Ok-List-clause-begun
returns-in-Ok-List-clause-begun g c = λ not_2.
    let asked : request_of (texts c.args.words.now) ≡ Some Names =
    subst (AreRequest (texts c.args.words.now)) c.in-Ok-List.field-0-is
    c.in-Ok-List.ensures.asked in
    let kept = Keeps-refl (g.R.Read.remaining (inner_of c.args.reader.now)) in
    let listed : c.as_bytes.result.now ≡ listing =
    c.as_bytes.ensures.value ∙ c.predefined_names.ensures in
    record {
      is_begun = inr (record {
        output = c.as_bytes.result.now;
        replies = OfNames asked kept listed;
        written = c.send.ensures.begun;
      });
    }

-- what is sent is the reply to the question
reply : (g : Over) (c : goal.After-settle-in-Question g)
    → Replies (texts c.args.words.now) (g.R.Read.remaining (inner_of c.args.reader.now))
    (g.R.Read.remaining (inner_of c.args.reader.now)) c.truth_of.result.now
reply g c =
    let asks = rw c.in-Ok-Of.field-0-is at c.in-Question.is in
    let asked : Asks (texts c.args.words.now) Question c.in-Ok-Of.task.encoding =
    Asks-request _ c.in-Ok-Of.field-0 c.in-Ok-Of.task Question
    c.in-Ok-Of.field-0-is asks c.in-Ok-Of.ensures.asked in
    let shown : IsCanonicalLine c.in-Ok-Of.task.encoding c.truth_of.result.now =
    (rw c.in-Ok-Of.field-0-is at c.truth_of.ensures) in
    let kept = Keeps-refl (g.R.Read.remaining (inner_of c.args.reader.now)) in
    OfQuestion c.in-Ok-Of.task.encoding asked kept shown

pub returns-in-Question-clause-done : goal.returns-in-Question-clause-done
returns-in-Question-clause-done g c = λ ends.
    let written =
    ended _ _ c.send-in-Question.ensures.sent (sym c.settle-in-Question.ensures ∙ ends) in
    record { output = c.truth_of.result.now; fulfils = ByReply (reply g c); written = written }

pub returns-in-Question-clause-begun : goal.returns-in-Question-clause-begun
returns-in-Question-clause-begun g c = λ not_2.
    record {
      is_begun = inr (record {
        output = c.truth_of.result.now;
        replies = reply g c;
        written = c.send-in-Question.ensures.begun;
      });
    }

-- the arguments ask for the conversion
conversion : (g : Over) (c : goal.After-settle-in-Conversion g)
    → Asks (texts c.args.words.now) (Conversion c.in-Conversion.verb) c.in-Ok-Of.task.encoding
conversion g c =
    let asks = rw c.in-Ok-Of.field-0-is at c.in-Conversion.is in
    Asks-request _ c.in-Ok-Of.field-0 c.in-Ok-Of.task (Conversion c.in-Conversion.verb)
    c.in-Ok-Of.field-0-is asks c.in-Ok-Of.ensures.asked

pub returns-in-Conversion-clause-done : goal.returns-in-Conversion-clause-done
returns-in-Conversion-clause-done g c = λ ends.
    let converts : Converts c.in-Conversion.verb c.in-Ok-Of.task.encoding
    (seen g.R.Read.remaining c.args.reader.now c.convert.new.reader)
    (seen g.W.Write.contents c.args.writer.now c.convert.new.writer) =
    ended _ _ (rw c.in-Ok-Of.field-0-is at c.convert.ensures.done)
    (sym c.settle-in-Conversion.ensures ∙ ends) in
    done_conversion _ _ _ _ _ c.sound_text.ensures.sound c.in-Conversion.verb
    c.in-Ok-Of.task.encoding (conversion g c) converts

pub returns-in-Conversion-clause-refused : goal.returns-in-Conversion-clause-refused
returns-in-Conversion-clause-refused g c = λ ends.
    let explains : IfErr c.convert.result (CausesFault c.in-Conversion.verb c.in-Ok-Of.task.encoding
    (seen g.R.Read.remaining c.args.reader.now c.convert.new.reader)
    (seen g.W.Write.contents c.args.writer.now c.convert.new.writer)) =
    (rw c.in-Ok-Of.field-0-is at c.convert.ensures.fault) in
    refused_conversion _ _ _ _ _ c.in-Conversion.verb c.in-Ok-Of.task.encoding c.convert.result
    (conversion g c) explains (sym c.settle-in-Conversion.ensures ∙ ends)

pub returns-in-Conversion-clause-begun : goal.returns-in-Conversion-clause-begun
returns-in-Conversion-clause-begun g c = λ not_2.
    let begins : Begins c.in-Conversion.verb c.in-Ok-Of.task.encoding
    (seen g.R.Read.remaining c.args.reader.now c.convert.new.reader)
    (seen g.W.Write.contents c.args.writer.now c.convert.new.writer) =
    (rw c.in-Ok-Of.field-0-is at c.convert.ensures.begun) in
    record {
      is_begun = inl (record {
        verb = c.in-Conversion.verb;
        base = c.in-Ok-Of.task.encoding;
        asked = conversion g c;
        begins = begins;
      });
    }

pub returns-in-Conversion-clause-failed : goal.returns-in-Conversion-clause-failed
returns-in-Conversion-clause-failed g c =
    rw c.settle-in-Conversion.ensures
    (failed_conversion c.convert.result _ _ c.convert.ensures.read c.convert.ensures.write)

pub returns-in-Err-clause-refused : goal.returns-in-Err-clause-refused
returns-in-Err-clause-refused g c = λ ends. absurd (omega (arith, ends))

pub returns-in-Err-clause-usage : goal.returns-in-Err-clause-usage
returns-in-Err-clause-usage g c = (λ ends. c.in-Err.ensures.wrong.0 refl, λ none. refl)

pub returns-in-Err-clause-begun : goal.returns-in-Err-clause-begun
returns-in-Err-clause-begun g c = λ not_2. absurd (not_2 refl)
