-- All that the cases compute with, under one name: a proof that unfolds `rules` unfolds every definition of its line.
use Rattle.octets.specs.Octets.{blank, filled, good_room}
use Rattle.pkcs1.specs.Pkcs1.{padded, cannot_pad, pad, before_zero, enciphered, strip}
use Rattle.rules.specs.Codes.{least, allowed, lowered}
use Rattle.rules.specs.Keys.{of_class, present, active_key, key_for}
use Rattle.rules.specs.Session.{new_session}
use Rattle.rules.specs.Files.{files_in, certificate_of, puk_record, pin_record, counter_record, personal_record}
use Rattle.rules.specs.Files.{record_count, record_of}
use Rattle.rules.specs.State.{good_code, good_codes, good_counts, good_references, good_records, good_profile, good_selection}
use Rattle.rules.specs.State.{good_environment, good_job, good_session, good}
use Rattle.rules.specs.Apdu.{parse}
use Rattle.rules.specs.Answers.{more_bytes, give}
use Rattle.rules.specs.FileCommands.{select, read_record, read_status, read_binary, get_response}
use Rattle.rules.specs.CodeCommands.{verdict, judged, queried, verify, replaced, change}
use Rattle.rules.specs.CodeCommands.{unblocked, unblock_by_verified_puk, unblock_by_presented_puk, reset_retry, counts_left}
use Rattle.rules.specs.Digests.{prefixed, is_digest}
use Rattle.rules.specs.KeyCommands.{set_environment, kind_chosen, choose_key, internal_authenticate, sign, decipher}
use Rattle.rules.specs.Judgement.{instruction, parameters, lengths, own_rules, known_instruction, named_in, judge_named}
use Rattle.rules.specs.Judgement.{judge_header, judge_form, judge}
use Rattle.rules.specs.Delivery.{deliver}
use Rattle.rules.specs.Edge.{response_in, written, command, delivery, power_reset}
use Rattle.rules.specs.Image.{byte_if, bytes_if, read_code, code_section, read_key, read_keys, key_section, reference_section}
use Rattle.rules.specs.Image.{read_personal, read_records, personal_section, count_section, read_counts, end, read_card, zero_card, loaded, load}
use Rattle.rules.specs.Writer.{code_image, codes_image, keys_among, key_bytes, keys_image, references_image, record_image}
use Rattle.rules.specs.Writer.{records_image, personal_image, counts_image, image_of, write}
use Rattle.rules.specs.Counting.{step, returned_status, returned_kind, form_sends, sent_by, read_off, wrong_status}
use Rattle.rules.specs.Counting.{ok_status, queries, verifies, changes, presents_puk, unblocks, presents, behind_records, count_at_load}
use Rattle.rules.specs.CodeSheet.{reset_done, opens, closes}
use Rattle.rules.specs.Reading.{returned_data, whole_block, read_blocks, last_word}
use Rattle.rules.specs.Sample.{sample_card, sample_image}
use Rattle.rules.specs.Cases.{on_card}
use Rattle.cases.specs.SecondCard.{second_card, second_image}

unfoldable pub rules : Unit {0}
unfolding blank filled good_room padded cannot_pad pad before_zero enciphered strip least allowed lowered of_class present active_key key_for new_session files_in certificate_of puk_record pin_record counter_record personal_record record_count record_of good_code good_codes good_counts good_references good_records good_profile good_selection good_environment good_job good_session good parse more_bytes give select read_record read_status read_binary get_response verdict judged queried verify replaced change unblocked unblock_by_verified_puk unblock_by_presented_puk reset_retry counts_left prefixed is_digest set_environment kind_chosen choose_key internal_authenticate sign decipher instruction parameters lengths own_rules known_instruction named_in judge_named judge_header judge_form judge deliver response_in written command delivery power_reset byte_if bytes_if read_code code_section read_key read_keys key_section reference_section read_personal read_records personal_section count_section read_counts end read_card zero_card loaded load code_image codes_image keys_among key_bytes keys_image references_image record_image records_image personal_image counts_image image_of write step returned_status returned_kind form_sends sent_by read_off wrong_status ok_status queries verifies changes presents_puk unblocks presents behind_records count_at_load reset_done opens closes returned_data whole_block read_blocks last_word sample_card sample_image on_card second_card second_image
rules = tt
